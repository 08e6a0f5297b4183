use Rattle.std.proofs.Common.{◌≡◌, ◌↔◌, ◌-◌, ◌≤◌, ◌<◌, IsTrue, length, drop, arith, rules}
use Rattle.std.proofs.lemmas.List.{length-drop}
use Rattle.ss_base.proofs.Written.{Appends-kept, written_part, written_end, rest_after, rest_shorter, rest_left, rest_grown}
use Rattle.ss_base.proofs.host.write_whole.Goals as goal

pub returns-in-Ok-eq0-clause-bytes : goal.returns-in-Ok-eq0-clause-bytes
returns-in-Ok-eq0-clause-bytes g c =
    let W = g.W.Write in
    let bytes = c.args.bytes.now in
    let rest = c.loop.rest.now in
    let n = c.in-Ok-eq0.field-0 in
    let left : 0 < length rest = search rules in
    let early : length bytes - length (drop n rest) < length bytes = omega (arith, left, length-drop n rest, c.in-Ok-eq0.field-0-is, c.loop.invariant.shorter) in
    written_part (W.contents c.args.out.now) (W.contents c.write.new.self) bytes (length bytes - length (drop n rest)) early
    (rest_grown (W.contents c.args.out.now) (W.contents c.loop.out) (W.contents c.write.new.self) rest bytes n c.in-Ok-eq0.ensures.bound c.loop.invariant.shorter c.loop.invariant.left c.loop.invariant.grown c.in-Ok-eq0.ensures.bytes)

pub returns-in-Err-clause-bytes : goal.returns-in-Err-clause-bytes
returns-in-Err-clause-bytes g c =
    let W = g.W.Write in
    let bytes = c.args.bytes.now in
    let place = length bytes - length c.loop.rest.now in
    let left : 0 < length c.loop.rest.now = search rules in
    written_part (W.contents c.args.out.now) (W.contents c.write.new.self) bytes place (omega (arith, left, c.loop.invariant.shorter))
    (Appends-kept (W.contents c.args.out.now) (W.contents c.loop.out) (W.contents c.write.new.self) bytes place c.loop.invariant.grown c.in-Err.ensures.bytes)

pub loop-preserved : goal.loop-preserved
loop-preserved g c =
    let W = g.W.Write in
    let rest = c.loop.rest.now in
    let bytes = c.args.bytes.now in
    let n = c.in-Ok.count in
    let fits : n ≤ length rest = c.in-Ok.ensures.bound in
    let shorter : length rest ≤ length bytes = c.loop.invariant.shorter in
    record {
      shorter = rw (rest_after rest n) (rest_shorter rest bytes n shorter);
      left = rw (rest_after rest n) (rest_left rest bytes n fits shorter c.loop.invariant.left);
      grown = rw (rest_after rest n) (rest_grown (W.contents c.args.out.now) (W.contents c.loop.out) (W.contents c.write.new.self) rest bytes n fits shorter c.loop.invariant.left c.loop.invariant.grown c.in-Ok.ensures.bytes);
    }

pub returns-clause-bytes : goal.returns-clause-bytes
returns-clause-bytes g c =
    let ended : IsTrue c.is_empty-2.result ↔ (length c.loop.rest.now ≡ 0) = search rules in
    written_end (g.W.Write.contents c.args.out.now) (g.W.Write.contents c.loop.out) c.args.bytes.now c.loop.rest.now c.is_empty-2.result ended c.loop.invariant.shorter c.loop.invariant.grown
