use Rattle.std.proofs.Common.{◌≡◌, suc, length, [], ◌∷◌, ◌++◌, sym, ◌∙◌, arith, length-append}
use Rattle.readback.proofs.MemberStrips.{laid_member, laid_other, next_number}
use Rattle.readback.proofs.reading_back.lay_members.Goals as goal

pub loop-keyholder-preserved : goal.loop-keyholder-preserved
loop-keyholder-preserved c =
    let so = c.loop-keyholder.invariant in
    let it = c.loop-keyholder.keyholder-iterator in
    let step = c.in-Some.ensures.steps in
    let k = length c.loop-keyholder.yielded in
    let start = next_number it.a.start it.a.end k _ it.a.exhausted step.0.1.1 so.next in
    let more : length (c.loop-keyholder.yielded ++ ((c.in-Some.keyholder, c.in-Some.strip) ∷ [])) ≡ suc k = simp length-append (omega arith) in
    record {
      so_far = laid_other (length c.args.glass.now) c.args.set.bits c.args.films.now k c.loop-keyholder.glass c.in-Some.strip.now
          it.b.rest.now c.next.new.self.b.rest.now so.so_far step.1.1.0 (step.1.1.1 ∙ so.piece) c.in-Some.keyholder _ (step.0.1.0 ∙ start) more (sym c.if-has.ensures);
      piece = step.1.0 ∙ so.piece;
      next = λ e. omega (arith, step.0.1.2 e, start, more);
    }

pub loop-keyholder-preserved-in-Continue-1 : goal.loop-keyholder-preserved-in-Continue-1
loop-keyholder-preserved-in-Continue-1 c =
    let so = c.loop-keyholder.invariant in
    let it = c.loop-keyholder.keyholder-iterator in
    let step = c.in-Some.ensures.steps in
    let k = length c.loop-keyholder.yielded in
    let start = next_number it.a.start it.a.end k _ it.a.exhausted step.0.1.1 so.next in
    let more : length (c.loop-keyholder.yielded ++ ((c.in-Some.keyholder, c.in-Some.strip) ∷ [])) ≡ suc k = simp length-append (omega arith) in
    record {
      so_far = laid_member (length c.args.glass.now) c.args.set.bits c.args.films.now k c.loop-keyholder.glass c.in-Some.strip.now
          it.b.rest.now c.next.new.self.b.rest.now so.so_far step.1.1.0 (step.1.1.1 ∙ so.piece) c.in-Some.keyholder _ c.lay.new.glass (step.0.1.0 ∙ start) more (sym c.if-has.ensures) c.lay.ensures.leaves;
      piece = step.1.0 ∙ so.piece;
      next = λ e. omega (arith, step.0.1.2 e, start, more);
    }
