-- Which calls of a shelf or a stream in memory are listed to fail, and the number of the next one.
use Rattle.std.specs.Prelude.{ℕ, List}
use Rattle.ss_base.specs.declared.memory.MemShelf.{MemShelf}
use Rattle.ss_base.specs.declared.memory.MemSink.{MemSink}

abbrev pub shelf_listed : MemShelf → List ℕ
shelf_listed s = s.calls.failing.items

abbrev pub shelf_next : MemShelf → ℕ
shelf_next s = s.calls.next

abbrev pub sink_listed : MemSink → List ℕ
sink_listed s = s.calls.failing.items

abbrev pub sink_next : MemSink → ℕ
sink_next s = s.calls.next
