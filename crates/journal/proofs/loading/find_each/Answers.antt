use Rattle.std.proofs.Common.{[], subst}
use Rattle.std.specs.Prelude.{map}
use Rattle.journal.specs.Load.{input, inputs, FoundAll}
use Rattle.journal.specs.Loading.{wrote_after}
use Rattle.journal.proofs.Each.{place_within, input_at, all_places, none_found, next_found, long_found, gave_up_found}
use Rattle.journal.proofs.loading.find_each.Goals as goal

pub loop-at-init : goal.loop-at-init
loop-at-init g c = none_found g.O.Outside.view c.args.outside.now (inputs (map (λ n. n.now) c.args.names.now) c.args.limit) c.new-files.result.items c.new-files.ensures.items

pub returns-in-Err-push : goal.returns-in-Err-push
returns-in-Err-push g c = wrote_after g.O.Outside.view c.args.outside.now c.loop-at.outside c.find_behind_name.new.outside [] c.loop-at.invariant.wrote (rw c.in-Ok-Some.field-0-is at c.in-Ok-Some.ensures).0

pub returns-in-Ok-None : goal.returns-in-Ok-None
returns-in-Ok-None g c =
    let q = rw c.in-Ok-None.field-0-is at c.in-Ok-None.ensures in
    let limit = c.args.limit in
    long_found g.O.Outside.view c.args.outside.now c.loop-at.outside c.find_behind_name.new.outside (inputs (map (λ n. n.now) c.args.names.now) limit) c.loop-at.at _ (input [] limit) c.loop-at.files.items
    (place_within c.args.names.now limit c.loop-at.at c.loop-at-test.true) (input_at c.args.names.now limit c.loop-at.at _ c.loop-at-test.true) c.loop-at.invariant q.0 q.1

pub returns-in-Err : goal.returns-in-Err
returns-in-Err g c =
    let limit = c.args.limit in
    gave_up_found g.O.Outside.view c.args.outside.now c.loop-at.outside c.find_behind_name.new.outside (inputs (map (λ n. n.now) c.args.names.now) limit) c.loop-at.at _ (input [] limit) c.loop-at.files.items c.in-Err.fault
    (place_within c.args.names.now limit c.loop-at.at c.loop-at-test.true) (input_at c.args.names.now limit c.loop-at.at _ c.loop-at-test.true) c.loop-at.invariant c.in-Err.ensures

pub loop-at-preserved : goal.loop-at-preserved
loop-at-preserved g c =
    let limit = c.args.limit in
    next_found g.O.Outside.view c.args.outside.now c.loop-at.outside c.find_behind_name.new.outside (inputs (map (λ n. n.now) c.args.names.now) limit) c.loop-at.at _ (input [] limit) c.loop-at.files.items c.push.new.self.items c.in-Ok-Some.file
    (place_within c.args.names.now limit c.loop-at.at c.loop-at-test.true) (input_at c.args.names.now limit c.loop-at.at _ c.loop-at-test.true) c.in-Ok.ensures.items c.loop-at.invariant (rw c.in-Ok-Some.field-0-is at c.in-Ok-Some.ensures)

pub returns : goal.returns
returns g c =
    subst (λ x. FoundAll g.O.Outside.view c.args.outside.now x c.loop-at.outside c.loop-at.files.items) (all_places c.args.names.now c.args.limit c.loop-at.at (c.loop-at-test.false)) c.loop-at.invariant
