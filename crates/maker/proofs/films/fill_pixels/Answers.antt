use Rattle.std.proofs.Common.{◌≡◌, ◌*◌, ◌≤◌, length, sym, ap, ◌∙◌, arith}
use Rattle.std.proofs.lemmas.List.{length-replicate}
use Rattle.tapes.specs.Orders.{order}
use Rattle.maker.proofs.BlockDrawing.{order_drawn, order_short, order_columns}
use Rattle.maker.proofs.Fillings.{filling_none, filling_on, filling_short, filling_all, table_of, block_within}
use Rattle.maker.proofs.films.fill_pixels.Goals as goal

pub loop-x-init : goal.loop-x-init
loop-x-init g c =
    rw c.requires.out (filling_none (g.S.Scheme.means c.args.scheme.now) c.args.row.width c.args.strips.size c.args.row.pixels.now (g.T.Tape.bytes c.args.tape.now) (c.args.strips.keyholders * c.args.strips.size))

pub returns-in_err-draw_order : goal.returns-in_err-draw_order
returns-in_err-draw_order g c =
    let s = g.S.Scheme.means c.args.scheme.now in
    let in_range = g.met.S.Scheme.in_range c.args.scheme.now in
    let rest = g.T.Tape.bytes c.loop-x.tape in
    let long : length c.loop-x.order ≡ s.m = c.loop-x.auto.order ∙ c.requires.order in
    let ran = order_short c.loop-x.order rest (omega arith) (omega arith) c.draw_order.new.order (g.T.Tape.bytes c.draw_order.new.tape)
    c.draw_order.result c.draw_order.ensures.answers c.draw_order.ensures.slice c.draw_order.ensures.leaves c.in_err-draw_order.was in
    rw c.from_residual.ensures (record {
      draws = filling_short s c.args.row.width c.args.strips.size c.args.row.pixels.now (g.T.Tape.bytes c.args.tape.now) c.loop-x.x rest c.loop-x.out c.loop-x.invariant (omega arith) (ap (λ k. order k rest) (sym long) ∙ ran.0);
      none = ran.1;
    })

pub set_block-requires-clause-place : goal.set_block-requires-clause-place
set_block-requires-clause-place g c =
    let s = g.S.Scheme.means c.args.scheme.now in
    let long : length c.draw_order.new.order ≡ s.m = c.draw_order.auto.order ∙ c.loop-x.auto.order ∙ c.requires.order in
    rw long (block_within s.m c.args.row.width c.args.strips.size c.loop-x.x (omega arith) c.requires.size)

pub set_block-requires-clause-columns : goal.set_block-requires-clause-columns
set_block-requires-clause-columns g c k d l =
    let s = g.S.Scheme.means c.args.scheme.now in
    let in_range = g.met.S.Scheme.in_range c.args.scheme.now in
    let long : length c.loop-x.order ≡ s.m = c.loop-x.auto.order ∙ c.requires.order in
    let wide : s.m ≤ length c.for_pixel-table.result.now =
    rw c.for_pixel-table.ensures (table_of s c.bit_at.result c.new-tables.result.white c.new-tables.result.black c.new-tables.ensures).size in
    let below = order_columns c.loop-x.order (g.T.Tape.bytes c.loop-x.tape) (omega arith) (omega arith) c.draw_order.new.order (g.T.Tape.bytes c.draw_order.new.tape)
    c.draw_order.result c.draw_order.ensures.answers c.draw_order.ensures.slice c.draw_order.ensures.leaves c.in_ok-draw_order.was k d l in
    omega arith

pub loop-x-preserved : goal.loop-x-preserved
loop-x-preserved g c =
    let s = g.S.Scheme.means c.args.scheme.now in
    let in_range = g.met.S.Scheme.in_range c.args.scheme.now in
    let rest = g.T.Tape.bytes c.loop-x.tape in
    let rest' = g.T.Tape.bytes c.draw_order.new.tape in
    let o = c.draw_order.new.order in
    let len = length c.loop-x.order in
    let long : len ≡ s.m = c.loop-x.auto.order ∙ c.requires.order in
    let least : 1 ≤ len = omega arith in
    let most : len ≤ 128 = omega arith in
    let ensured = c.draw_order.ensures in
    let some = c.in_ok-draw_order.was in
    filling_on s c.args.row.width c.args.strips.size c.args.row.pixels.now (g.T.Tape.bytes c.args.tape.now) c.loop-x.x len c.args.strips.keyholders
    rest c.loop-x.out o rest' c.set_block.new.out
    c.new-tables.result.white c.new-tables.result.black c.for_pixel-table.result.now c.bit_at.result
    long c.requires.keyholders c.bit_at.ensures c.new-tables.ensures c.for_pixel-table.ensures
    c.loop-x.invariant (omega arith) in_range.some_column
    (order_drawn c.loop-x.order rest least most o rest' c.draw_order.result ensured.answers ensured.slice ensured.leaves some)
    (order_columns c.loop-x.order rest least most o rest' c.draw_order.result ensured.answers ensured.slice ensured.leaves some)
    c.draw_order.auto.order c.set_block.ensures

pub returns : goal.returns
returns g c =
    let s = g.S.Scheme.means c.args.scheme.now in
    filling_all s c.args.row.width c.args.strips.size c.args.row.pixels.now (g.T.Tape.bytes c.args.tape.now) c.loop-x.x (g.T.Tape.bytes c.loop-x.tape) c.loop-x.out c.loop-x.invariant (omega arith) c.requires.size
    (c.loop-x.auto.out ∙ ap length c.requires.out ∙ length-replicate (c.args.strips.keyholders * c.args.strips.size) 0 ∙ ap (λ k. k * c.args.strips.size) c.requires.keyholders)
