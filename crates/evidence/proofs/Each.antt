-- What holds of all that is shown, told message by message.
use Rattle.std.proofs.Common.{◌≡◌, ℕ, Bool, true, false, not, ◌&&◌, ◌||◌, List, [], ◌∷◌, map, flat_map, refl, sym, ap, ◌∙◌}
use Rattle.std.specs.List.{list_all}
use Rattle.std.proofs.lemmas.List.Folds.{list_all-append, list_any-append}
use Rattle.evidence.specs.Senders.{all_seated}

and_true : (a b : Bool) → ((a && true) && b) ≡ (a && b)
and_true true b = refl
and_true false b = refl

neither : (a b : Bool) → (not a && not b) ≡ not (a || b)
neither true b = refl
neither false b = refl

or_false : (a b : Bool) → (not (a || false) && not b) ≡ not (a || b)
or_false true b = refl
or_false false b = refl

module _ {M X : Type 0} (holds : X → Bool) where
  -- each message shows one thing
  pub one_each : (shown : M → X) (ms : List M) → list_all (λ m. list_all holds (shown m ∷ [])) ms ≡ list_all holds (map shown ms)
  one_each shown [] = refl
  one_each shown (m ∷ ms) = and_true (holds (shown m)) _ ∙ ap (λ b. holds (shown m) && b) (one_each shown ms)

  -- or several
  pub some_each : (shown : M → List X) (ms : List M) → list_all (λ m. list_all holds (shown m)) ms ≡ list_all holds (flat_map shown ms)
  some_each shown [] = refl
  some_each shown (m ∷ ms) = ap (λ b. list_all holds (shown m) && b) (some_each shown ms) ∙ sym (list_all-append holds (shown m) (flat_map shown ms))

module _ {M : Type 0} (n : ℕ) where
  -- each message has one sender
  pub one_sender : (sender : M → ℕ) (ms : List M) → list_all (λ m. all_seated n (sender m ∷ [])) ms ≡ all_seated n (map sender ms)
  one_sender sender [] = refl
  one_sender sender (m ∷ ms) = ap (λ b. all_seated n (sender m ∷ []) && b) (one_sender sender ms) ∙ or_false _ _

  -- or several
  pub some_senders : (senders : M → List ℕ) (ms : List M) → list_all (λ m. all_seated n (senders m)) ms ≡ all_seated n (flat_map senders ms)
  some_senders senders [] = refl
  some_senders senders (m ∷ ms) = ap (λ b. all_seated n (senders m) && b) (some_senders senders ms) ∙ neither _ _ ∙ ap not (sym (list_any-append _ (senders m) (flat_map senders ms)))
