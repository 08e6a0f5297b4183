use Rattle.std.proofs.Common.{◌≡◌, ◌+◌, set, sym, subst, add-one}
use Rattle.cache_core.specs.Replay.{touched}
use Rattle.cache_core.specs.Ways.{way_at, newest_first, renewed, entered, IsSoundSet}
use Rattle.cache_core.proofs.Places.{found_place}
use Rattle.cache_core.proofs.Accesses.{LeastAt, lines_of_hit, touch_of_hit, hit_sound, lines_of_miss, touch_of_miss, miss_sound}
use Rattle.cache_core.proofs.ways.touch.Goals as goal

pub returns-in-Some-clause-touch : goal.returns-in-Some-clause-touch
returns-in-Some-clause-touch c =
    let at = found_place c.args.block c.in-Some.place c.args.ways.now (rw c.in-Some.is at c.look_near-look.ensures.place) in
    touch_of_hit c.args.config.now c.args.accesses c.args.block c.in-Some.place c.args.write c.args.ways.now c.requires.sound.0 at

pub returns-in-Some-clause-lines : goal.returns-in-Some-clause-lines
returns-in-Some-clause-lines c =
    let n = c.args.accesses in
    let ways = c.args.ways.now in
    let i = c.in-Some.place in
    let at = found_place c.args.block i ways (rw c.in-Some.is at c.look_near-look.ensures.place) in
    let after = (touched c.args.config.now (newest_first n ways) c.args.block c.args.write).lines in
    let lines = lines_of_hit c.args.config.now n c.args.block i c.args.write ways c.requires.sound.0 at in
    subst (λ w. newest_first (n + 1) (set ways i w) ≡ after) (sym c.renew.ensures)
    (subst (λ k. newest_first k (set ways i (renewed c.args.config.now.fifo c.args.write k (way_at ways i))) ≡ after) (sym (add-one n)) lines)

pub returns-in-Some-clause-sound : goal.returns-in-Some-clause-sound
returns-in-Some-clause-sound c =
    let n = c.args.accesses in
    let ways = c.args.ways.now in
    let i = c.in-Some.place in
    let at = found_place c.args.block i ways (rw c.in-Some.is at c.look_near-look.ensures.place) in
    let sound = hit_sound c.args.config.now n c.args.block i c.args.write ways c.requires.sound.0 at in
    subst (λ w. IsSoundSet c.args.config.now (n + 1) (set ways i w)) (sym c.renew.ensures)
    (subst (λ k. IsSoundSet c.args.config.now k (set ways i (renewed c.args.config.now.fifo c.args.write k (way_at ways i)))) (sym (add-one n)) sound)

pub returns-in-None-clause-touch : goal.returns-in-None-clause-touch
returns-in-None-clause-touch c =
    let least : LeastAt c.look_near-look.result.oldest c.args.ways.now = record { inside = c.look_near-look.ensures.inside; least = c.look_near-look.ensures.least c.in-None.is } in
    rw c.victim-victim.ensures
    (touch_of_miss c.args.config.now c.args.accesses c.args.block c.look_near-look.result.oldest c.args.write c.args.ways.now c.requires.sound.0 (rw c.in-None.is at c.look_near-look.ensures.place) least)

pub returns-in-None-clause-lines : goal.returns-in-None-clause-lines
returns-in-None-clause-lines c =
    let n = c.args.accesses in
    let ways = c.args.ways.now in
    let i = c.look_near-look.result.oldest in
    let least : LeastAt i ways = record { inside = c.look_near-look.ensures.inside; least = c.look_near-look.ensures.least c.in-None.is } in
    let after = (touched c.args.config.now (newest_first n ways) c.args.block c.args.write).lines in
    let lines = lines_of_miss c.args.config.now n c.args.block i c.args.write ways c.requires.sound.0 (rw c.in-None.is at c.look_near-look.ensures.place) least in
    subst (λ w. newest_first (n + 1) (set ways i w) ≡ after) (sym c.enter.ensures)
    (subst (λ k. newest_first k (set ways i (entered c.args.block c.args.write k)) ≡ after) (sym (add-one n)) lines)

pub returns-in-None-clause-sound : goal.returns-in-None-clause-sound
returns-in-None-clause-sound c =
    let n = c.args.accesses in
    let ways = c.args.ways.now in
    let i = c.look_near-look.result.oldest in
    let sound = miss_sound c.args.config.now n c.args.block i c.args.write ways c.requires.sound.0 (rw c.in-None.is at c.look_near-look.ensures.place) c.look_near-look.ensures.inside c.requires.space in
    subst (λ w. IsSoundSet c.args.config.now (n + 1) (set ways i w)) (sym c.enter.ensures)
    (subst (λ k. IsSoundSet c.args.config.now k (set ways i (entered c.args.block c.args.write k))) (sym (add-one n)) sound)
