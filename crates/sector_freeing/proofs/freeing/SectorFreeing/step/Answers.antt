use Rattle.sector_freeing.proofs.Managed.{pool_step}
use Rattle.sector_freeing.proofs.freeing.SectorFreeing.step.Goals as goal

pub returns-clause-pool : goal.returns-clause-pool
returns-clause-pool g c d tells =
    let call = c.advance.ensures.content d tells in
    let well = g.met.D.SharedDisk.well_formed c.advance.new.disk call.0 call.1 in
    (call.0, call.1, pool_step c.args.self c.args.host (g.D.SharedDisk.faults c.advance.new.disk) c.advance.result d call.0 well call.2)
