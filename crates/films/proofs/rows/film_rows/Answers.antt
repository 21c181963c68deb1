use Rattle.std.proofs.Common.{◌*◌, ◌≤◌, refl, arith}
use Rattle.films.proofs.RowFacts.{strip_within, row_more}
use Rattle.films.proofs.rows.film_rows.Goals as goal

pub slice_bounds-extend_from_slice-end : goal.slice_bounds-extend_from_slice-end
slice_bounds-extend_from_slice-end c =
    let least : 1 ≤ c.args.keyholder = grind arith in
    let most : c.args.keyholder ≤ c.args.n = grind arith in
    let end = strip_within c.args.n c.args.size c.args.height c.loop-y.y c.args.keyholder (c.args.height * (c.args.n * c.args.size)) c.loop-y-test.true least most (omega arith) in
    omega arith

pub loop-y-preserved : goal.loop-y-preserved
loop-y-preserved c =
    let least : 1 ≤ c.args.keyholder = grind arith in
    row_more c.args.n c.args.size c.args.strips.now c.args.keyholder c.loop-y.y _ _ _ least refl c.loop-y.invariant c.in_ok-extend_from_slice.ensures.items
