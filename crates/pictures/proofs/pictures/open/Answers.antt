use Rattle.std.proofs.Common.{◌≡◌, ◌≤◌, List, ℕ, length, rules, Result, Ok, Err, MatchResult, IfOk}
use Rattle.pictures.specs.Reading.{got, opened, FaultAt}
use Rattle.pictures.specs.Format.{Only, NoPicture}
use Rattle.pictures.specs.FirstFault.{FirstFault, Whole}
use Rattle.pictures.specs.Rows.{EveryRow}
use Rattle.pictures.specs.declared.pictures.Picture.{Picture}
use Rattle.pictures.specs.declared.refusals.PictureFault.{PictureFault}
use Rattle.pictures.proofs.Grammar.{accepted, refused}
use Rattle.pictures.proofs.FirstFault.{left_within, fault_at, first-fault, whole}
use Rattle.pictures.proofs.Rows.{every-row}
use Rattle.pictures.proofs.pictures.open.Goals as goal

-- what the answer says by the grammar, and of shorter and longer files
abbrev Answers : List ℕ → Result Picture PictureFault → Type 0
Answers file r = MatchResult r (λ p. opened file ≡ got (p.width, p.height) p.rows.now) (λ e. FaultAt file e.refusal e.place)

by_grammar : (file : List ℕ) (r : Result Picture PictureFault) → Answers file r → MatchResult r (λ p. Only file p.width p.height p.rows.now) (λ _. NoPicture file)
by_grammar file (Ok p) e = accepted file _ _ _ e
by_grammar file (Err e) at = refused file _ _ at.stops

first : (file : List ℕ) (r : Result Picture PictureFault) → Answers file r → MatchResult r (λ _. Whole file) (λ e. FirstFault file e.refusal e.place)
first file (Ok p) e = whole file _ _ _ e
first file (Err e) at = first-fault file _ _ at

rows_there : (file : List ℕ) (r : Result Picture PictureFault) → Answers file r → IfOk r (λ p. EveryRow p.width p.height p.rows.now)
rows_there file (Ok p) e = every-row _ _ _ (accepted file _ _ _ e).is.is_rows
rows_there file (Err e) at = tt

pub map_err-requires : goal.map_err-requires
map_err-requires c e is =
    let le : length e.rest.now ≤ length c.args.file.now = left_within c.args.file.now e.refusal e.rest.now (rw is at c.read_picture.ensures) in
    search rules

pub returns-clause-answers : goal.returns-clause-answers
returns-clause-answers c = let r = c.read_picture.ensures in let m = c.map_err.ensures.cases in search (rules, fault_at c.args.file.now)

pub returns-clause-grammar : goal.returns-clause-grammar
returns-clause-grammar c = by_grammar c.args.file.now c.map_err.result (returns-clause-answers c)

pub returns-clause-first_fault : goal.returns-clause-first_fault
returns-clause-first_fault c = first c.args.file.now c.map_err.result (returns-clause-answers c)

pub returns-clause-every_row : goal.returns-clause-every_row
returns-clause-every_row c = rows_there c.args.file.now c.map_err.result (returns-clause-answers c)
