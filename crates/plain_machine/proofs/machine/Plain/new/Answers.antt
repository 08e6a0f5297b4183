use Rattle.std.proofs.Common.{length, refl, sym, ap, ◌∙◌, arith, true}
use Rattle.sim_safe.specs.State.{State}
use Rattle.plain_machine.proofs.machine.Plain.new.Goals as goal

pub returns-clause-ready : goal.returns-clause-ready
returns-clause-ready c =
    record {
      is_running = refl;
      counted = refl;
      fits = record {
        allowed = c.requires.allowed;
        cycle_fits = omega arith;
        time = omega (arith, c.settled.ensures.counts.last_cycle);
        references = omega (arith, c.settled.ensures.counts.references, c.requires.counts.0);
        number = omega (arith, ap length c.new.ensures.items);
        instructions = omega (arith, c.requires.counts.1);
        top_fits = λ x e. absurd cc;
        text = c.requires.text;
        copied = λ x e. absurd cc;
      };
    }

pub returns-clause-begins : goal.returns-clause-begins
returns-clause-begins c =
    record {
      none = refl;
      stands = λ g i. record {
        config_is = i.config;
        kept_rows = c.new.ensures.items;
        kept_to_fetch = ap (λ x. record { pc = x; earliest = 0; right = true }) (c.pc.ensures ∙ ap (λ (s : State). s.pc) i.start);
        path = record {
          text = ap (λ (s : State). s.text) i.start;
          behind = i.start;
          top_is = refl;
          state = sym i.start;
          straight = λ _. refl;
          there = λ _. refl;
        };
        histories = c.settled.ensures.references g.hier g.references i.references;
        predictions = i.events;
      };
    }
