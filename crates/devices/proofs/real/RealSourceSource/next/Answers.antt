use Rattle.devices.proofs.real.RealSourceSource.next.Goals as goal

pub returns-in-Ok-clause-most : goal.returns-in-Ok-clause-most
returns-in-Ok-clause-most g c = let most = c.args.self.now.faults.most in (most, most)
