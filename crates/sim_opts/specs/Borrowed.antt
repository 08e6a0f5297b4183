-- The request that a borrowed value stands for.
use Rattle.std.specs.Prelude.{ℕ, List, Option, Some, None, option_copied, map, string_bytes}
use Rattle.sim_opts.specs.Request.{Run, Request, SimSafe, Record, Asm, Dis, Words, NotBuilt}
use Rattle.sim_opts.specs.declared.request.Request as borrowed
use Rattle.sim_opts.specs.declared.request.SimSafe as safe
use Rattle.sim_opts.specs.declared.request.PointFile.{PointFile}
use Rattle.sim_opts.specs.declared.request.Record as recorded

-- a file for a point, and behind how many instructions it is taken
abbrev pub point_in : Option PointFile → Option (List ℕ × ℕ)
point_in None = None
point_in (Some p) = Some (p.file.now, p.at)

abbrev pub run_in : safe.SimSafe → Run
run_in r = record {
  object = r.object.now;
  args = map string_bytes r.args.now;
  trace = option_copied r.trace;
  restart = option_copied r.restart;
  skip = r.skip;
  most = r.max_inst;
  commits = option_copied r.commits;
  point = point_in r.point;
}

abbrev pub record_in : recorded.Record → Request
record_in r = Record r.out.now (option_copied r.input) (map (λ file. file.now) r.files.items) r.max_inst r.object.now (map string_bytes r.args.now)

abbrev pub request_in : borrowed.Request → Request
request_in (borrowed.TheVariants.SimSafe r) = SimSafe (run_in r)
request_in (borrowed.TheVariants.Record r) = record_in r
request_in (borrowed.TheVariants.Asm source object) = Asm source.now object.now
request_in (borrowed.TheVariants.Dis object) = Dis object.now
request_in (borrowed.TheVariants.Words place reason) = Words place reason
request_in borrowed.TheVariants.NotBuilt = NotBuilt
