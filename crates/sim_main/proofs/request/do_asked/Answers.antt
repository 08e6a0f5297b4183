use Rattle.sim_opts.proofs.Starts.{request_starts}
use Rattle.sim_main.proofs.request.do_asked.Goals as goal

pub do_request-requires : goal.do_request-requires
do_request-requires g c = request_starts c.args.words c.args.options.now c.in-Ok.request c.in-Ok.ensures c.requires
