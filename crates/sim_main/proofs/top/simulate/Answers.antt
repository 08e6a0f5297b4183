use Rattle.std.proofs.Common.{◌≡◌, ◌++◌, ◌∙◌, ap, sym, subst, Option}
use Rattle.std.specs.Prelude.{map, string_bytes, Ok}
use Rattle.journal.specs.Write.{output_of, report_of}
use Rattle.journal.specs.View.{counts}
use Rattle.journal.specs.Parts.{parts_view}
use Rattle.journal.specs.Texts.{WholeFiles}
use Rattle.journal.specs.Clauses.{LeavesFiles, LeavesOutput, LeavesReport, OutcomeWith, IfAnswered}
use Rattle.journal.specs.ClauseLaws.{leaves_files, leaves_output, leaves_report}
use Rattle.answers.specs.declared.answer.Answer.{Answer}
use Rattle.sim_main.specs.declared.ending.Ending.{Ending}
use Rattle.sim_main.specs.Ending.{answer_of, is_fault}
use Rattle.sim_main.specs.Outcome.{asked_in, inputs_in, OutcomeIn, ComesIn}
use Rattle.sim_main.specs.Answer.{AnswersBy, EndsByWords, Counts, Quiet, HoldsOfPoint}
use Rattle.sim_main.specs.OutcomeLaws.{starts_files}
use Rattle.sim_main.specs.Apart.{apart_in}
use Rattle.sim_main.specs.EndingLaws.{answer_told, fault_told, counts_of, plainly_in, memory_by, counts_words, stays_words, last_by, quiet_by, ending_by, replay_by, words_by, succeeds_by, streams_succeed_by}
use Rattle.sim_main.specs.FarLaws.{far_by}
use Rattle.sim_main.proofs.top.simulate.Goals as goal

pub returns-clause-comes : goal.returns-clause-comes
returns-clause-comes g c =
    let v = parts_view g.H.Shelf.tells g.H.Shelf.calm g.H.Shelf.files g.H.Shelf.faults g.P.Sink.tells g.P.Sink.contents g.P.Sink.faults g.P.Sink.calm g.R.Sink.tells g.R.Sink.contents g.R.Sink.faults g.R.Sink.calm in
    let old : g.row.H.Denot × g.row.P.Denot × g.row.R.Denot = (c.args.shelf.now, c.args.prog.now, c.args.stat.now) in
    let new : g.row.H.Denot × g.row.P.Denot × g.row.R.Denot = (c.do_parts.new.shelf, c.do_parts.new.prog, c.do_parts.new.stat) in
    let words = map string_bytes c.args.words.now in
    let came = c.do_parts.result in
    let p = c.do_parts.ensures.comes in
    record { came = came; ending = c.ending_by.ensures; comes = p }

pub returns-clause-files : goal.returns-clause-files
returns-clause-files g c = λ t.
    let v = parts_view g.H.Shelf.tells g.H.Shelf.calm g.H.Shelf.files g.H.Shelf.faults g.P.Sink.tells g.P.Sink.contents g.P.Sink.faults g.P.Sink.calm g.R.Sink.tells g.R.Sink.contents g.R.Sink.faults g.R.Sink.calm in
    let old : g.row.H.Denot × g.row.P.Denot × g.row.R.Denot = (c.args.shelf.now, c.args.prog.now, c.args.stat.now) in
    let new : g.row.H.Denot × g.row.P.Denot × g.row.R.Denot = (c.do_parts.new.shelf, c.do_parts.new.prog, c.do_parts.new.stat) in
    let words = map string_bytes c.args.words.now in
    let came = c.do_parts.result in
    let p = c.do_parts.ensures.comes in
    let q = plainly_in v old new words came p t in
    let told = sym (ap answer_of c.ending_by.ensures ∙ answer_told came) in
    subst (λ (x : Option Answer). LeavesFiles (inputs_in words (v.files old)) (OutcomeIn words (v.files old)) (v.files old) (v.files new) x) told (leaves_files v old new (inputs_in words (v.files old)) (OutcomeIn words (v.files old)) came (starts_files words (asked_in words (v.files old)) (apart_in words (v.files old))) t q)

pub returns-clause-prog : goal.returns-clause-prog
returns-clause-prog g c = λ t u.
    let v = parts_view g.H.Shelf.tells g.H.Shelf.calm g.H.Shelf.files g.H.Shelf.faults g.P.Sink.tells g.P.Sink.contents g.P.Sink.faults g.P.Sink.calm g.R.Sink.tells g.R.Sink.contents g.R.Sink.faults g.R.Sink.calm in
    let old : g.row.H.Denot × g.row.P.Denot × g.row.R.Denot = (c.args.shelf.now, c.args.prog.now, c.args.stat.now) in
    let new : g.row.H.Denot × g.row.P.Denot × g.row.R.Denot = (c.do_parts.new.shelf, c.do_parts.new.prog, c.do_parts.new.stat) in
    let words = map string_bytes c.args.words.now in
    let came = c.do_parts.result in
    let p = c.do_parts.ensures.comes in
    let q = plainly_in v old new words came p t in
    let told = sym (ap answer_of c.ending_by.ensures ∙ answer_told came) in
    subst (λ (x : Option Answer). LeavesOutput (inputs_in words (v.files old)) (OutcomeIn words (v.files old)) (v.files old) (v.prog.contents old) (v.prog.contents new) x) told (leaves_output v old new (inputs_in words (v.files old)) (OutcomeIn words (v.files old)) came t u q)

pub returns-clause-stat : goal.returns-clause-stat
returns-clause-stat g c = λ t u.
    let v = parts_view g.H.Shelf.tells g.H.Shelf.calm g.H.Shelf.files g.H.Shelf.faults g.P.Sink.tells g.P.Sink.contents g.P.Sink.faults g.P.Sink.calm g.R.Sink.tells g.R.Sink.contents g.R.Sink.faults g.R.Sink.calm in
    let old : g.row.H.Denot × g.row.P.Denot × g.row.R.Denot = (c.args.shelf.now, c.args.prog.now, c.args.stat.now) in
    let new : g.row.H.Denot × g.row.P.Denot × g.row.R.Denot = (c.do_parts.new.shelf, c.do_parts.new.prog, c.do_parts.new.stat) in
    let words = map string_bytes c.args.words.now in
    let came = c.do_parts.result in
    let p = c.do_parts.ensures.comes in
    let q = plainly_in v old new words came p t in
    let told = sym (ap answer_of c.ending_by.ensures ∙ answer_told came) in
    subst (λ (x : Option Answer). LeavesReport (inputs_in words (v.files old)) (OutcomeIn words (v.files old)) (v.files old) (v.stat.contents old) (v.stat.contents new) x) told (leaves_report v old new (inputs_in words (v.files old)) (OutcomeIn words (v.files old)) came t u q)

pub returns-clause-together : goal.returns-clause-together
returns-clause-together g c = λ t u n.
    let v = parts_view g.H.Shelf.tells g.H.Shelf.calm g.H.Shelf.files g.H.Shelf.faults g.P.Sink.tells g.P.Sink.contents g.P.Sink.faults g.P.Sink.calm g.R.Sink.tells g.R.Sink.contents g.R.Sink.faults g.R.Sink.calm in
    let old : g.row.H.Denot × g.row.P.Denot × g.row.R.Denot = (c.args.shelf.now, c.args.prog.now, c.args.stat.now) in
    let new : g.row.H.Denot × g.row.P.Denot × g.row.R.Denot = (c.do_parts.new.shelf, c.do_parts.new.prog, c.do_parts.new.stat) in
    let words = map string_bytes c.args.words.now in
    let came = c.do_parts.result in
    let p = c.do_parts.ensures.comes in
    far_by v old new words came t u (fault_told came (sym (ap is_fault c.ending_by.ensures) ∙ n)) p

pub returns-clause-memory : goal.returns-clause-memory
returns-clause-memory g c = λ t e.
    let v = parts_view g.H.Shelf.tells g.H.Shelf.calm g.H.Shelf.files g.H.Shelf.faults g.P.Sink.tells g.P.Sink.contents g.P.Sink.faults g.P.Sink.calm g.R.Sink.tells g.R.Sink.contents g.R.Sink.faults g.R.Sink.calm in
    let old : g.row.H.Denot × g.row.P.Denot × g.row.R.Denot = (c.args.shelf.now, c.args.prog.now, c.args.stat.now) in
    let new : g.row.H.Denot × g.row.P.Denot × g.row.R.Denot = (c.do_parts.new.shelf, c.do_parts.new.prog, c.do_parts.new.stat) in
    let words = map string_bytes c.args.words.now in
    let came = c.do_parts.result in
    let p = c.do_parts.ensures.comes in
    memory_by v old new words came t (sym c.ending_by.ensures ∙ e) p

pub returns-clause-replay : goal.returns-clause-replay
returns-clause-replay g c = λ t.
    let v = parts_view g.H.Shelf.tells g.H.Shelf.calm g.H.Shelf.files g.H.Shelf.faults g.P.Sink.tells g.P.Sink.contents g.P.Sink.faults g.P.Sink.calm g.R.Sink.tells g.R.Sink.contents g.R.Sink.faults g.R.Sink.calm in
    let old : g.row.H.Denot × g.row.P.Denot × g.row.R.Denot = (c.args.shelf.now, c.args.prog.now, c.args.stat.now) in
    let new : g.row.H.Denot × g.row.P.Denot × g.row.R.Denot = (c.do_parts.new.shelf, c.do_parts.new.prog, c.do_parts.new.stat) in
    let words = map string_bytes c.args.words.now in
    let came = c.do_parts.result in
    let p = c.do_parts.ensures.comes in
    let told = sym (ap answer_of c.ending_by.ensures ∙ answer_told came) in
    subst (λ (x : Option Answer). IfAnswered x (λ a. OutcomeWith (v.files old) (inputs_in words (v.files old)) (ComesIn words (v.files old) (Ok a)) (λ o. (a ≡ o.ending) × WholeFiles o.writes (v.files old) (v.files new)))) told (replay_by v old new words came t p)

pub returns-clause-last : goal.returns-clause-last
returns-clause-last g c = λ t grown.
    let v = parts_view g.H.Shelf.tells g.H.Shelf.calm g.H.Shelf.files g.H.Shelf.faults g.P.Sink.tells g.P.Sink.contents g.P.Sink.faults g.P.Sink.calm g.R.Sink.tells g.R.Sink.contents g.R.Sink.faults g.R.Sink.calm in
    let old : g.row.H.Denot × g.row.P.Denot × g.row.R.Denot = (c.args.shelf.now, c.args.prog.now, c.args.stat.now) in
    let new : g.row.H.Denot × g.row.P.Denot × g.row.R.Denot = (c.do_parts.new.shelf, c.do_parts.new.prog, c.do_parts.new.stat) in
    let words = map string_bytes c.args.words.now in
    let came = c.do_parts.result in
    let p = c.do_parts.ensures.comes in
    last_by v old new words came t grown p

pub returns-clause-ending : goal.returns-clause-ending
returns-clause-ending g c =
    let v = parts_view g.H.Shelf.tells g.H.Shelf.calm g.H.Shelf.files g.H.Shelf.faults g.P.Sink.tells g.P.Sink.contents g.P.Sink.faults g.P.Sink.calm g.R.Sink.tells g.R.Sink.contents g.R.Sink.faults g.R.Sink.calm in
    let old : g.row.H.Denot × g.row.P.Denot × g.row.R.Denot = (c.args.shelf.now, c.args.prog.now, c.args.stat.now) in
    let new : g.row.H.Denot × g.row.P.Denot × g.row.R.Denot = (c.do_parts.new.shelf, c.do_parts.new.prog, c.do_parts.new.stat) in
    let words = map string_bytes c.args.words.now in
    let came = c.do_parts.result in
    let p = c.do_parts.ensures.comes in
    let told = sym (ap answer_of c.ending_by.ensures ∙ answer_told came) in
    subst (λ (x : Option Answer). IfAnswered x (λ a. AnswersBy (v.tells old) (v.files old) words a (λ o. (v.prog.tells old → v.prog.contents new ≡ v.prog.contents old ++ output_of o.writes) × (v.stat.tells old → v.stat.contents new ≡ v.stat.contents old ++ report_of o.writes)))) told (ending_by v old new words came p)

pub returns-clause-words : goal.returns-clause-words
returns-clause-words g c =
    let v = parts_view g.H.Shelf.tells g.H.Shelf.calm g.H.Shelf.files g.H.Shelf.faults g.P.Sink.tells g.P.Sink.contents g.P.Sink.faults g.P.Sink.calm g.R.Sink.tells g.R.Sink.contents g.R.Sink.faults g.R.Sink.calm in
    let old : g.row.H.Denot × g.row.P.Denot × g.row.R.Denot = (c.args.shelf.now, c.args.prog.now, c.args.stat.now) in
    let new : g.row.H.Denot × g.row.P.Denot × g.row.R.Denot = (c.do_parts.new.shelf, c.do_parts.new.prog, c.do_parts.new.stat) in
    let words = map string_bytes c.args.words.now in
    let came = c.do_parts.result in
    let p = c.do_parts.ensures.comes in
    subst (λ (e : Ending). EndsByWords (v.tells old) (v.files old) words e) (sym c.ending_by.ensures) (words_by v old new words came c.do_parts.ensures.unbuilt p)

pub returns-clause-count : goal.returns-clause-count
returns-clause-count g c =
    let v = parts_view g.H.Shelf.tells g.H.Shelf.calm g.H.Shelf.files g.H.Shelf.faults g.P.Sink.tells g.P.Sink.contents g.P.Sink.faults g.P.Sink.calm g.R.Sink.tells g.R.Sink.contents g.R.Sink.faults g.R.Sink.calm in
    let old : g.row.H.Denot × g.row.P.Denot × g.row.R.Denot = (c.args.shelf.now, c.args.prog.now, c.args.stat.now) in
    let new : g.row.H.Denot × g.row.P.Denot × g.row.R.Denot = (c.do_parts.new.shelf, c.do_parts.new.prog, c.do_parts.new.stat) in
    let words = map string_bytes c.args.words.now in
    let came = c.do_parts.result in
    let p = c.do_parts.ensures.comes in
    subst (λ (x : Ending). Counts (counts v old) (counts v new) x) (sym c.ending_by.ensures) (counts_of (counts v old) (counts v new) came (counts_words v old new words came p))

pub returns-clause-quiet : goal.returns-clause-quiet
returns-clause-quiet g c =
    let v = parts_view g.H.Shelf.tells g.H.Shelf.calm g.H.Shelf.files g.H.Shelf.faults g.P.Sink.tells g.P.Sink.contents g.P.Sink.faults g.P.Sink.calm g.R.Sink.tells g.R.Sink.contents g.R.Sink.faults g.R.Sink.calm in
    let old : g.row.H.Denot × g.row.P.Denot × g.row.R.Denot = (c.args.shelf.now, c.args.prog.now, c.args.stat.now) in
    let new : g.row.H.Denot × g.row.P.Denot × g.row.R.Denot = (c.do_parts.new.shelf, c.do_parts.new.prog, c.do_parts.new.stat) in
    let words = map string_bytes c.args.words.now in
    let came = c.do_parts.result in
    let p = c.do_parts.ensures.comes in
    subst (λ (x : Ending). HoldsOfPoint (v.tells old) (v.files old) words (λ point. Quiet point (v.prog.faults old) (v.prog.faults new) old.1 new.1 old.2 new.2 x)) (sym c.ending_by.ensures) (quiet_by v old new words came p)

pub returns-clause-stays : goal.returns-clause-stays
returns-clause-stays g c =
    let v = parts_view g.H.Shelf.tells g.H.Shelf.calm g.H.Shelf.files g.H.Shelf.faults g.P.Sink.tells g.P.Sink.contents g.P.Sink.faults g.P.Sink.calm g.R.Sink.tells g.R.Sink.contents g.R.Sink.faults g.R.Sink.calm in
    let old : g.row.H.Denot × g.row.P.Denot × g.row.R.Denot = (c.args.shelf.now, c.args.prog.now, c.args.stat.now) in
    let new : g.row.H.Denot × g.row.P.Denot × g.row.R.Denot = (c.do_parts.new.shelf, c.do_parts.new.prog, c.do_parts.new.stat) in
    let words = map string_bytes c.args.words.now in
    let came = c.do_parts.result in
    let p = c.do_parts.ensures.comes in
    stays_words v old new words came p

pub returns-clause-succeeds : goal.returns-clause-succeeds
returns-clause-succeeds g c = λ k t h e.
    let v = parts_view g.H.Shelf.tells g.H.Shelf.calm g.H.Shelf.files g.H.Shelf.faults g.P.Sink.tells g.P.Sink.contents g.P.Sink.faults g.P.Sink.calm g.R.Sink.tells g.R.Sink.contents g.R.Sink.faults g.R.Sink.calm in
    let old : g.row.H.Denot × g.row.P.Denot × g.row.R.Denot = (c.args.shelf.now, c.args.prog.now, c.args.stat.now) in
    let new : g.row.H.Denot × g.row.P.Denot × g.row.R.Denot = (c.do_parts.new.shelf, c.do_parts.new.prog, c.do_parts.new.stat) in
    let words = map string_bytes c.args.words.now in
    let came = c.do_parts.result in
    let p = c.do_parts.ensures.comes in
    succeeds_by v old new words came k t h p (sym c.ending_by.ensures ∙ e)

pub returns-clause-streams_succeed : goal.returns-clause-streams_succeed
returns-clause-streams_succeed g c = λ k l e.
    let v = parts_view g.H.Shelf.tells g.H.Shelf.calm g.H.Shelf.files g.H.Shelf.faults g.P.Sink.tells g.P.Sink.contents g.P.Sink.faults g.P.Sink.calm g.R.Sink.tells g.R.Sink.contents g.R.Sink.faults g.R.Sink.calm in
    let old : g.row.H.Denot × g.row.P.Denot × g.row.R.Denot = (c.args.shelf.now, c.args.prog.now, c.args.stat.now) in
    let new : g.row.H.Denot × g.row.P.Denot × g.row.R.Denot = (c.do_parts.new.shelf, c.do_parts.new.prog, c.do_parts.new.stat) in
    let words = map string_bytes c.args.words.now in
    let came = c.do_parts.result in
    let p = c.do_parts.ensures.comes in
    streams_succeed_by v old new words came k l p (sym c.ending_by.ensures ∙ e)
