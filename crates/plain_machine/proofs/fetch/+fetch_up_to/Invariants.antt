use Rattle.plain_machine.proofs.fetch.+fetch_up_to.Given as goal

abbrev pub decreases-fetch_up_to : goal.decreases-fetch_up_to
decreases-fetch_up_to l = l.most
