-- The path: what each row does, whether its prediction was wrong, and where fetching goes on behind it.
use Rattle.std.specs.Prelude.{ℕ, suc, ◌+◌, ◌%◌, ◌^◌, max, Bool, true, not, Option, Some, None, ◌==◌, ◌&&◌, if◌then◌else◌}
use Rattle.ooo_table.specs.Row.{Fetched, Row}
use Rattle.ooo_table.specs.Execution.{Execution, wrong_execution, is_load, is_store}
use Rattle.ooo_table.specs.Table.{Setting, NextFetch}

module _ (set : Setting) where
  -- a right row does what the functional machine does, and a wrong one acts on a copy of its state
  unfoldable pub execution_of : Fetched → Execution
  execution_of f = if f.right then set.execute f.state f.pc else wrong_execution f.state (set.execute f.state f.pc)

  abbrev pub execution : Row → Execution
  execution r = execution_of r.fetched

  abbrev pub loads : Row → Bool
  loads r = is_load (execution r).memory

  abbrev pub stores : Row → Bool
  stores r = is_store (execution r).memory

  -- a right row that can be done, and another instruction than the predicted one follows
  abbrev pub mispredicted : Row → Bool
  mispredicted r = r.fetched.right && not (execution r).stops && not (r.fetched.predicted == (execution r).next)

  -- a right row by which the program exits
  abbrev pub is_exit : Row → Bool
  is_exit r = r.fetched.right && (execution r).exit

  -- the row of the first instruction
  abbrev pub first_fetch : NextFetch
  first_fetch = record { pc = set.start.pc; earliest = 0; right = true; state = set.start }

  -- The words of the row are there in the cycle of its fetch, and it was predicted to fall through.
  abbrev pub keeps_fetching : ℕ → Row → Bool
  keeps_fetching c r = (r.fetched.queued == c) && (r.fetched.predicted == ((r.fetched.pc + 8) % 2 ^ 32))

  -- Behind a row that was fetched at c the predicted address is next. It is right where the row is right and its
  -- prediction is what comes next, and it acts on the state behind the row. Where fetching doesn't go on in this cycle,
  -- the words of the row are waited for.
  abbrev pub next_fetch_after : ℕ → Row → NextFetch
  next_fetch_after c r =
      record {
        pc = r.fetched.predicted;
        earliest = if keeps_fetching c r then c else max (suc c) r.fetched.queued;
        right = r.fetched.right && not (execution r).stops && (r.fetched.predicted == (execution r).next);
        state = (execution r).after;
      }

  -- after a recovery of the row m at c, what comes next behind m is next, and right again
  abbrev pub redirected : ℕ → Option Row → NextFetch → NextFetch
  redirected c None n = n
  redirected c (Some m) n =
      record { pc = (execution m).next; earliest = c + set.config.penalty; right = true; state = (execution m).after }
