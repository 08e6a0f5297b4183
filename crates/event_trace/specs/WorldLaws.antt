-- Laws of the closed world, in words of their own.
use Rattle.std.specs.Prelude.{◌≡◌, ◌≢◌, ◌+◌, ◌<◌, ◌≤◌, ℕ, None, option_map, List, ◌++◌, length, flat_map}
use Rattle.event_trace.specs.declared.trace.Record.{Record}
use Rattle.event_trace.specs.World.{WorldState, open_at, left_at}

-- the bytes that a call writes to memory
abbrev pub bytes_written : Record → List ℕ
bytes_written r = flat_map (λ b. b.bytes) r.out_blocks

-- what was left at a descriptor is what was read and then what is left now, and at every other descriptor as much is left as before
pub record ReadsOn (w v : WorldState) (descriptor : ℕ) (bytes : List ℕ) : Type 0 where
  pub own : left_at w descriptor ≡ option_map (λ left. bytes ++ left) (left_at v descriptor)
  pub others : (d : ℕ) → d ≢ descriptor → left_at v d ≡ left_at w d

-- the input, the files and the start break stay, no open is forgotten, and a descriptor that was given and is closed stays closed
pub record Keeps (w v : WorldState) : Type 0 where
  pub input : v.input ≡ w.input
  pub files : v.files ≡ w.files
  pub start_break : v.start_break ≡ w.start_break
  pub opens : length w.opens ≤ length v.opens
  pub closed : (d : ℕ) → d < 3 + length w.opens → open_at w.opens d ≡ None → open_at v.opens d ≡ None
