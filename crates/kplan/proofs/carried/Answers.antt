use Rattle.kplan.proofs.carried.Goals as goal

pub returns : goal.returns
returns g c = (c.run.result, c.run.ensures.ends, c.exit_code.ensures)
