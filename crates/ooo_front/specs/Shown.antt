-- How the fields of a front show.
use Rattle.std.specs.Prelude.{reverse}
use Rattle.ooo_front.specs.declared.front.Front.TheInside.{Inside}
use Rattle.ooo_front.specs.Fetching.{FrontEnd}
use Rattle.ooo_front.specs.Path.{IsSound}

-- the ring has the oldest row first
abbrev pub shown : Inside → FrontEnd
shown f =
    record {
      rows = reverse f.queue.items;
      size = f.queue.capacity;
      width = f.width;
      row = f.row;
      pc = f.pc;
      earliest = f.earliest;
      cycle = f.cycle;
    }

abbrev pub IsSoundInside : Inside → Type 0
IsSoundInside f = IsSound (shown f)
