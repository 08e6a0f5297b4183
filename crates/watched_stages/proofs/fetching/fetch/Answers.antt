use Rattle.std.proofs.Common.{List, map, length, ap, ◌∙◌, subst}
use Rattle.ooo_front.specs.declared.row.FetchRow.{FetchRow}
use Rattle.core_statistics.specs.Counted.{with_fetches}
use Rattle.watched_stages.specs.Watched.{Shows, fetch_event}
use Rattle.watched_stages.proofs.Fetches.{watched_fetch}
use Rattle.watched_stages.proofs.fetching.fetch.Goals as goal

pub returns-clause-fetches : goal.returns-clause-fetches
returns-clause-fetches g c =
    watched_fetch g.W.Watch.took g.W.Watch.cut c.args.cycle c.args.parts.now c.fetch-fetched.new.parts c.fetch-fetched.result.items c.args.stats.now c.count_fetches.new.self c.args.watch.now c.show_fetched.new.watch c.show_fetched.result
    c.fetch-fetched.ensures.stands
    (c.count_fetches.ensures ∙ ap (λ n. with_fetches n c.args.stats.now) (ap length c.as_slice-rows.ensures.value))
    (subst (λ (items : List FetchRow). Shows g.W.Watch.took g.W.Watch.cut (map (fetch_event c.args.cycle) items) c.args.watch.now c.show_fetched.new.watch c.show_fetched.result) c.as_slice-rows.ensures.value c.show_fetched.ensures.took)
