use Rattle.std.proofs.Common.{◌≡◌, ◌∙◌, ◌+◌, ◌-◌, ap, arith, refl, sym, length}
use Rattle.ooo_front.specs.Fetching.{FrontEnd, fetch_cycle}
use Rattle.ooo_front.proofs.Turns.{begun, over, done, further}
use Rattle.ooo_front.proofs.Cycles.{rows_begin, counts_begin, looks_begin, rows_more, counts_more, refers_more, looks_more}
use Rattle.ooo_front.proofs.front.Front.fetch_cycle.Goals as goal

pub loop-init : goal.loop-init
loop-init c =
    let width : c.self.inside.width ≡ c.args.self.now.width = ap (λ (f : FrontEnd). f.width) (c.self.view_is ∙ c.begin.ensures) in
    record {
      under_way = λ config p s st.
          begun config p c.args.text.now c.args.cycle c.args.self.now c.begin.new.self c.args.hier.now c.args.pred.now s st c.begin.ensures (c.self.inside.width - 0) (omega (arith, width));
      rows = rows_begin c.args.self.now c.begin.new.self c.args.cycle c.new-rows.result.items c.begin.ensures c.new-rows.ensures;
      counts = counts_begin c.args.self.now c.begin.new.self c.args.cycle c.new-rows.result.items c.begin.ensures c.new-rows.ensures;
      few = omega (arith, ap length c.new-rows.ensures);
      refers = record { config = refl; references = omega arith; last_cycle = c.requires.order };
      looks = looks_begin c.args.pred.now c.new-rows.result.items c.new-rows.ensures;
      ends = width;
    }

pub returns-then-not-may_fetch-clause-fetched : goal.returns-then-not-may_fetch-clause-fetched
returns-then-not-may_fetch-clause-fetched c = λ config p s st.
    over config p c.args.text.now c.args.cycle (c.self.inside.width - c.loop.counter) c.loop.self c.loop.hier c.loop.pred (fetch_cycle config p c.args.text.now c.args.cycle s)
    (c.loop.invariant.under_way config p s st) (sym c.may_fetch.ensures ∙ c.if-not-may_fetch.true)

pub loop-preserved : goal.loop-preserved
loop-preserved c =
    record {
      under_way = λ config p s st.
          further config p c.args.text.now c.args.cycle (c.self.inside.width - c.loop.counter) (c.self.inside.width - (c.loop.counter + 1)) c.loop.self c.fetch_one.new.self c.loop.hier c.fetch_one.new.hier c.loop.pred c.fetch_one.new.pred
          (fetch_cycle config p c.args.text.now c.args.cycle s) (omega (arith, c.loop-test.true)) (c.loop.invariant.under_way config p s st) (sym c.may_fetch.ensures ∙ c.if-not-may_fetch.false) (c.fetch_one.ensures.stands config p);
      rows = rows_more c.args.self.now c.loop.self c.fetch_one.new.self c.loop.rows.items c.push.new.self.items c.fetch_one.result c.loop.invariant.rows c.fetch_one.ensures.front c.push.ensures.items;
      counts =
          counts_more c.args.self.now c.loop.self c.fetch_one.new.self c.loop.rows.items c.push.new.self.items c.fetch_one.result c.args.cycle c.loop.invariant.counts c.fetch_one.ensures.front c.fetch_one.ensures.next c.push.ensures.items
          (omega (arith, c.loop.invariant.few, c.loop-test.true, c.loop.invariant.ends));
      few = omega (arith, c.loop.invariant.few, c.push.ensures.len);
      refers = refers_more c.args.hier.now c.loop.hier c.fetch_one.new.hier c.loop.rows.items c.push.new.self.items c.fetch_one.result c.args.cycle c.loop.invariant.refers c.fetch_one.ensures.asks.0 c.push.ensures.items;
      looks = looks_more c.args.pred.now c.loop.pred c.fetch_one.new.pred c.loop.rows.items c.push.new.self.items c.fetch_one.result c.loop.invariant.looks c.fetch_one.ensures.asks.1 c.push.ensures.items;
      ends = c.loop.invariant.ends;
    }

pub returns-clause-fetched : goal.returns-clause-fetched
returns-clause-fetched c = λ config p s st.
    done config p c.args.text.now c.args.cycle (c.self.inside.width - c.loop.counter) c.loop.self c.loop.hier c.loop.pred (fetch_cycle config p c.args.text.now c.args.cycle s)
    (omega (arith, c.loop-test.false)) (c.loop.invariant.under_way config p s st)
