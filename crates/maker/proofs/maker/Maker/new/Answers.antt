use Rattle.maker.proofs.Laws.{conceals, shows}
use Rattle.maker.proofs.maker.Maker.new.Goals as goal

pub returns-clause-conceals : goal.returns-clause-conceals
returns-clause-conceals g c =
    conceals (g.S.Scheme.means c.args.scheme) (g.met.S.Scheme.in_range c.args.scheme) (g.met.S.Scheme.lawful c.args.scheme) c.args.width c.args.height

pub returns-clause-shows : goal.returns-clause-shows
returns-clause-shows g c =
    shows (g.S.Scheme.means c.args.scheme) (g.met.S.Scheme.in_range c.args.scheme) (g.met.S.Scheme.lawful c.args.scheme) c.args.width c.args.height
