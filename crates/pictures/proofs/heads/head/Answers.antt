use Rattle.std.proofs.Common.{◌≡◌, ◌≤◌, true, length, decimal, sym, ap, ◌∙◌, arith}
use Rattle.std.proofs.lemmas.Bool.Decides.{nat_tests}
use Rattle.pictures.specs.Head.{head_of, over_front, within_size}
use Rattle.pictures.proofs.Written.{length_head, heading_fits, head_written, head_opens}
use Rattle.pictures.proofs.heads.head.Goals as goal

pub returns-clause-leaves : goal.returns-clause-leaves
returns-clause-leaves c =
    let w = c.args.w in
    let h = c.args.h in
    let buf = c.args.buf.now in
    let wide = c.if-not-contains.ensures.cases in
    let high = c.if-not-contains-2.ensures.cases in
    let is-width : c.as_bytes-width.result.now ≡ decimal w = c.as_bytes-width.ensures.value ∙ c.format.ensures.text in
    let is-height : c.as_bytes-height.result.now ≡ decimal h = c.as_bytes-height.ensures.value ∙ c.format-2.ensures.text in
    let size : within_size w h ≡ true = grind (arith, nat_tests) in
    let fits : length (head_of w h) ≤ length buf = omega (arith, length_head w h, ap length is-width, ap length is-height) in
    let written : c.put-end-5.new.buf ≡ over_front (head_of w h) buf =
    head_written buf c.put-end.new.buf c.put-end-2.new.buf c.put-end-3.new.buf c.put-end-4.new.buf c.put-end-5.new.buf c.as_bytes-width.result.now c.as_bytes-height.result.now
    w h c.put-end.result c.put-end-2.result c.put-end-3.result c.put-end-4.result is-width is-height
    c.put-end.ensures.written (omega arith) c.put-end-2.ensures.written c.put-end-2.ensures.after c.put-end-3.ensures.written c.put-end-3.ensures.after
    c.put-end-4.ensures.written c.put-end-4.ensures.after c.put-end-5.ensures.written in
    written ∙ ap (λ x. x.leaves) (sym (heading_fits w h buf size fits))

pub returns-clause-opens : goal.returns-clause-opens
returns-clause-opens c =
    let wide = c.if-not-contains.ensures.cases in
    let high = c.if-not-contains-2.ensures.cases in
    head_opens c.args.w c.args.h (grind (arith, nat_tests)) (grind (arith, nat_tests)) (grind (arith, nat_tests))
