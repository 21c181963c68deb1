use Rattle.std.proofs.Common.{rules, Ok, Err, refl, ap, ◌∙◌}
use Rattle.std.proofs.lemmas.Result.{err_from_is_err_and}
use Rattle.readback.proofs.Calls.{early_some, when_early, when_short, when_read}
use Rattle.readback.proofs.reading_back.read_back.Goals as goal

pub lay_members-requires-clause-some : goal.lay_members-requires-clause-some
lay_members-requires-clause-some g c =
    let scheme = c.args.scheme.now in
    early_some (g.S.Scheme.means scheme) (g.met.S.Scheme.in_range scheme) c.args.set.bits c.args.w _ _ c.in_ok-admit.ensures.refusal

pub returns-in_err-admit : goal.returns-in_err-admit
returns-in_err-admit g c =
    let scheme = c.args.scheme.now in
    let p = err_from_is_err_and c.from_residual.result c.from_residual.ensures.1 in
    when_early (g.S.Scheme.means scheme) (g.met.S.Scheme.in_range scheme) (g.met.S.Scheme.lawful scheme)
    c.args.set.bits c.args.w c.args.films.now c.args.glass.now c.args.out.now
    c.in_err-admit.field-0.0 c.from_residual.result c.in_err-admit.ensures.refusal (p.1 ∙ ap Err p.2)

pub returns-in_err-lay_members : goal.returns-in_err-lay_members
returns-in_err-lay_members g c =
    let scheme = c.args.scheme.now in
    let p = err_from_is_err_and c.from_residual-in_err-lay_members.result c.from_residual-in_err-lay_members.ensures.1 in
    when_short (g.S.Scheme.means scheme) (g.met.S.Scheme.in_range scheme) (g.met.S.Scheme.lawful scheme)
    c.args.set.bits c.args.w c.args.films.now c.args.glass.now c.args.out.now
    c.in_ok-admit.ensures.refusal c.keyholders.result c.keyholders.ensures
    c.in_err-lay_members.field-0.0 c.from_residual-in_err-lay_members.result c.lay_members.new.glass
    c.in_err-lay_members.ensures (p.1 ∙ ap Err p.2)

pub returns-in_err-read : goal.returns-in_err-read
returns-in_err-read g c =
    let scheme = c.args.scheme.now in
    let p = err_from_is_err_and c.from_residual-in_err-read.result c.from_residual-in_err-read.ensures.1 in
    when_read (g.S.Scheme.means scheme) (g.met.S.Scheme.in_range scheme) (g.met.S.Scheme.lawful scheme)
    c.args.set.bits c.args.w c.args.films.now c.args.glass.now c.args.out.now
    c.in_ok-admit.ensures.refusal c.keyholders.result c.keyholders.ensures
    c.lay_members.new.glass c.read.new.out (Err c.in_err-read.field-0.0) c.from_residual-in_err-read.result
    c.in_ok-lay_members.ensures (search rules) (p.1 ∙ ap Err p.2)

pub returns : goal.returns
returns g c =
    let scheme = c.args.scheme.now in
    when_read (g.S.Scheme.means scheme) (g.met.S.Scheme.in_range scheme) (g.met.S.Scheme.lawful scheme)
    c.args.set.bits c.args.w c.args.films.now c.args.glass.now c.args.out.now
    c.in_ok-admit.ensures.refusal c.keyholders.result c.keyholders.ensures
    c.lay_members.new.glass c.read.new.out (Ok tt) (Ok tt)
    c.in_ok-lay_members.ensures (search rules) refl
