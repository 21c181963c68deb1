-- A run is played call by call. For `play`.
use Rattle.std.proofs.Common.{◌≡◌, ℕ, List, [], ◌∷◌, ◌++◌, sym, refl, ap, ◌∙◌, subst}
use Rattle.std.proofs.lemmas.List.{append_assoc}
use Rattle.schemes.specs.Meaning.{Meaning}
use Rattle.maker.specs.declared.maker.Maker.{Maker}
use Rattle.maker.specs.declared.plays.Reply.{Reply}
use Rattle.maker.specs.Runs.{Call, Outcome, Event, outcome, transcript, state_after}
use Rattle.maker.specs.Makers.{state_of, outcome_of, Leaves}
use Rattle.maker.specs.Plays.{ReplyTo, Replies}

replies_more : (es : List Event) (rs : List Reply) (e : Event) (r : Reply) → Replies es rs → ReplyTo e.call e.outcome r → Replies (es ++ e ∷ []) (rs ++ r ∷ [])
replies_more [] [] e r h t = (t, tt)
replies_more [] (_ ∷ _) e r h t = absurd h
replies_more (_ ∷ _) [] e r h t = absurd h
replies_more (x ∷ es) (y ∷ rs) e r h t = (h.0, replies_more es rs e r h.1 t)

-- A run that begins with this maker.
module _ {S T : Type 0} (means : S → Meaning) (bytes : T → List ℕ) (start : Maker S T) (all : List Call) where
  abbrev s : Meaning
  s = means start.scheme

  abbrev w : ℕ
  w = start.width

  abbrev h : ℕ
  h = start.height

  -- some calls are carried out, and these are left
  pub record Playing (k : Maker S T) (calls : List Call) (replies : List Reply) : Type 0 where
    pub done : List Event
    pub replied : Replies done replies
    pub whole : transcript s w h (state_of means bytes start) all ≡ done ++ transcript s w h (state_of means bytes k) calls
    pub final : state_after s w h (state_of means bytes start) all ≡ state_after s w h (state_of means bytes k) calls
    pub same_scheme : k.scheme ≡ start.scheme
    pub same_width : k.width ≡ w
    pub same_height : k.height ≡ h

  pub playing_none : Playing start all []
  playing_none = record { done = []; replied = tt; whole = refl; final = refl; same_scheme = refl; same_width = refl; same_height = refl }

  module _ (k k' : Maker S T) (call : Call) (rest : List Call) (replies : List Reply) (reply : Reply)
      (p : Playing k (call ∷ rest) replies) (t : ReplyTo call (outcome_of means bytes k call) reply) (leaves : Leaves means bytes k k' (outcome_of means bytes k call)) where
    abbrev came : Outcome
    came = outcome s w h (state_of means bytes k) call

    abbrev event : Event
    event = record { call = call; outcome = came }

    same_came : outcome_of means bytes k call ≡ came
    same_came =
        ap (λ x. outcome (means x) k.width k.height (state_of means bytes k) call) p.same_scheme
        ∙ ap (λ x. outcome s x k.height (state_of means bytes k) call) p.same_width
        ∙ ap (λ x. outcome s w x (state_of means bytes k) call) p.same_height

    next_state : came.left ≡ state_of means bytes k'
    next_state = ap (λ o. o.left) (sym same_came) ∙ sym leaves.left

    pub playing_more : Playing k' rest (replies ++ reply ∷ [])
    playing_more = record {
      done = p.done ++ event ∷ [];
      replied = replies_more p.done replies event reply p.replied (subst (λ o. ReplyTo call o reply) same_came t);
      whole =
          p.whole ∙ sym (append_assoc p.done (event ∷ []) (transcript s w h came.left rest))
          ∙ ap (λ st. (p.done ++ event ∷ []) ++ transcript s w h st rest) next_state;
      final = p.final ∙ ap (λ st. state_after s w h st rest) next_state;
      same_scheme = leaves.scheme ∙ p.same_scheme;
      same_width = leaves.width ∙ p.same_width;
      same_height = leaves.height ∙ p.same_height;
    }
