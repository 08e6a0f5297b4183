use Rattle.std.proofs.Common.{List, ℕ, Bor, ap, get_or, []}
use Rattle.std.specs.Prelude.{map}
use Rattle.run_commands.proofs.Recordings.{given_comes, given_long, name_there}
use Rattle.run_commands.proofs.recording.record_given.Goals as goal

pub returns-in-Ok-Whole : goal.returns-in-Ok-Whole
returns-in-Ok-Whole g c =
    let now : List (Bor (List ℕ)) → List (List ℕ) = λ names. map (λ n. n.now) names in
    given_comes g.O.Outside.view c.args.outside.now c.find_each.new.outside c.record_loaded.new.outside c.args.request.now c.args.object.now c.args.input.items (now c.as_slice-names.result.now) c.in-Ok-Whole.files.items c.record_loaded.result
    (ap now c.as_slice-names.ensures.value) (rw c.in-Ok-Whole.field-0-is at c.in-Ok-Whole.ensures) c.record_loaded.ensures

pub returns-in-Ok-TooLong : goal.returns-in-Ok-TooLong
returns-in-Ok-TooLong g c =
    let now : List (Bor (List ℕ)) → List (List ℕ) = λ names. map (λ n. n.now) names in
    let names = c.as_slice-names.result.now in
    let d : Bor (List ℕ) = record { ref_ptr = (0, 0); now = [] } in
    let place = c.in-Ok-TooLong.at in
    let long = rw c.in-Ok-TooLong.field-0-is at c.in-Ok-TooLong.ensures in
    given_long g.O.Outside.view c.args.outside.now c.find_each.new.outside c.refuse_long.new.outside c.args.request.now c.args.object.now c.args.input.items (now names) place (get_or names place d).now c.refuse_long.result
    (ap now c.as_slice-names.ensures.value) (name_there names place d long.within) long c.refuse_long.ensures
