use Rattle.std.proofs.Common.{◌+◌, ◌∙◌, sym, ap, false}
use Rattle.std.proofs.lemmas.List.{take_rest}
use Rattle.pictures.specs.Reading.{blank}
use Rattle.pictures.proofs.Steps.{comment_open, comment_closed}
use Rattle.pictures.proofs.parts.skip_comment.Goals as goal

pub returns-in-Some-clause-reads : goal.returns-in-Some-clause-reads
returns-in-Some-clause-reads c =
    let bytes = c.args.bytes.now in
    comment_closed bytes c.in-Some.end (sym c.line_end.ensures ∙ c.in-Some.is) ∙ ap (blank false) (sym (take_rest bytes (c.in-Some.end + 1)))

pub returns-in-None-clause-reads : goal.returns-in-None-clause-reads
returns-in-None-clause-reads c = comment_open c.args.bytes.now (sym c.line_end.ensures ∙ c.in-None.is)
