use Rattle.std.proofs.Common.{◌≡◌, ◌<◌, length, refl, sym, subst, get_or, ◌+◌, ◌*◌, ◌%◌, ◌^◌, rules}
use Rattle.std.proofs.lemmas.List.{get_or_read}
use Rattle.bpred_tables.specs.Updates.{place_in, second_place, digit}
use Rattle.bpred_tables.specs.Tables.{TwoTables, TwoLevelStands, levels_of}
use Rattle.bpred_tables.proofs.Learning.{two_level_step}
use Rattle.bpred_tables.proofs.two_level.TwoLevelDirection.update.Goals as goal

pub returns-clause-updated : goal.returns-clause-updated
returns-clause-updated c = λ updates stands.
    let t : TwoTables = record {
      histories = c.self.inside.histories.items;
      counters = c.self.inside.counters;
      width = c.self.inside.width;
      xored = c.self.inside.xor;
    } in
    let i = c.index_in-first.result in
    let j = c.second_index-second.result in
    let at : i ≡ place_in (length t.histories) c.args.pc = search rules in
    let within : i < length t.histories = search rules in
    let read : c.index-history.result.now ≡ get_or t.histories i 0 =
    get_or_read t.histories i c.index-history.result.now within c.index-history.ensures 0 in
    let by_history = subst (λ (v : TwoTables). j ≡ second_place (levels_of v) c.index-history.result.now c.args.pc) (sym c.self.view_is) c.second_index-second.ensures.index in
    let second : j ≡ second_place (levels_of t) (get_or t.histories i 0) c.args.pc = rw (← read) by_history in
    let below = subst (λ (v : TwoTables). j < length v.counters) (sym c.self.view_is) c.second_index-second.ensures.within in
    let next : c.shifted-next.result ≡ (2 * get_or t.histories i 0 + digit c.args.taken) % 2 ^ t.width =
    rw (← read) c.shifted-next.ensures.next in
    let before = subst (λ (v : TwoTables). TwoLevelStands v updates) (sym c.self.view_is) stands in
    rw c.count.ensures
    (two_level_step t updates (record { pc = c.args.pc; taken = c.args.taken }) i j c.shifted-next.result _ at within second below next refl before)
