-- Any message is exact.
use Rattle.std.proofs.Common.{◌≡◌, ℕ, Bool, true, false, List, [], ◌∷◌, Some, None, Option, if◌then◌else◌, nat_eq, sym, refl, ap, ◌∙◌, subst, arith}
use Rattle.std.specs.Option.{option_map}
use Rattle.std.proofs.lemmas.Bool.Decides.{nat_tests}
use Rattle.std.proofs.lemmas.List.{append-nil}
use Rattle.xdr.specs.Laws.{Bytes, Exact}
use Rattle.xdr.specs.Reading.{int_from}
use Rattle.xdr.proofs.Exactness.{then_parts, no_answer}
use Rattle.parts.specs.Encoding.{prepare_type, commit_type, checkpoint_type, view_change_type, new_view_type, untagged_prepare, untagged_commit, untagged_checkpoint}
use Rattle.parts.specs.Reading.{of_type, whole, prepare_rest, commit_rest, checkpoint_rest}
use Rattle.parts.proofs.Exactness.{prepares_exact, commits_exact, checkpoints_exact}
use Rattle.message.specs.Decoding.{encode, decode}
use Rattle.message.specs.Encoding.{untagged_view_change, untagged_new_view}
use Rattle.message.specs.Laws.{MessageFits, MessagesExact}
use Rattle.message.specs.Reading.{view_change_rest, new_view_rest}
use Rattle.message.specs.declared.message.Message.{Message}
use Rattle.message.specs.declared.message.Message.TheVariants.{Prepare, Commit, Checkpoint, ViewChange, NewView}
use Rattle.message.proofs.Exactness.{view_changes_exact, new_views_exact}

module _ {X : Type 0} {fits : X → Type 0} {write : X → List ℕ} (type : ℕ) (rest_from : List ℕ → Option (X × List ℕ)) (exact : Exact fits write (of_type type rest_from)) where
  -- a whole message reads back
  whole_back : (x : X) → fits x → whole (of_type type rest_from (write x)) ≡ Some x
  whole_back x f = ap (λ bytes. whole (of_type type rest_from bytes)) (sym (append-nil (write x))) ∙ ap whole (exact.back x [] f)

  -- and is the only writing of what was read
  whole_only : (make : X → Message) → ((x : X) → write x ≡ encode (make x)) → ((x : X) → fits x → MessageFits (make x)) → (bytes : List ℕ) (m : Message) (p : ℕ × List ℕ) → Bytes bytes → int_from bytes ≡ Some p → nat_eq p.0 type ≡ true → option_map make (whole (rest_from p.1)) ≡ Some m → (bytes ≡ encode m) × MessageFits m
  whole_only make writes keeps bytes m p small first is e = of (rest_from p.1) (rw (first, is) refl) e
    where
      of : (o : Option (X × List ℕ)) → of_type type rest_from bytes ≡ o → option_map make (whole o) ≡ Some m → (bytes ≡ encode m) × MessageFits m
      of None is e = absurd (no_answer m e)
      of (Some (x, [])) is e =
          let only = exact.only bytes x [] small is in
          let same : make x ≡ m = grind (arith, e) in
          (only.0 ∙ append-nil (write x) ∙ writes x ∙ ap encode same, subst MessageFits same (keeps x only.1))
      of (Some (x, b ∷ rest)) is e = absurd (grind (arith, nat_tests, e))

-- one of five kinds, by the first test that is passed
first_kind : {C : Type 0} (m : Message) (a b c d e : Bool) {o p q r s : Option Message} → (a ≡ true → o ≡ Some m → C) → (b ≡ true → p ≡ Some m → C) → (c ≡ true → q ≡ Some m → C) → (d ≡ true → r ≡ Some m → C) → (e ≡ true → s ≡ Some m → C) → (if a then o else (if b then p else (if c then q else (if d then r else (if e then s else None))))) ≡ Some m → C
first_kind m true b c d e f g h i j is = f refl is
first_kind m false true c d e f g h i j is = g refl is
first_kind m false false true d e f g h i j is = h refl is
first_kind m false false false true e f g h i j is = i refl is
first_kind m false false false false true f g h i j is = j refl is
first_kind m false false false false false f g h i j is = absurd (no_answer m is)

back : (m : Message) → MessageFits m → decode (encode m) ≡ Some m
unfolding decode untagged_prepare untagged_commit untagged_checkpoint untagged_view_change untagged_new_view
back (Prepare p) f = ap (option_map Prepare) (whole_back prepare_type prepare_rest prepares_exact p f)
back (Commit c) f = ap (option_map Commit) (whole_back commit_type commit_rest commits_exact c f)
back (Checkpoint c) f = ap (option_map Checkpoint) (whole_back checkpoint_type checkpoint_rest checkpoints_exact c f)
back (ViewChange c) f = ap (option_map ViewChange) (whole_back view_change_type view_change_rest view_changes_exact c f)
back (NewView n) f = ap (option_map NewView) (whole_back new_view_type new_view_rest new_views_exact n f)

only : (bytes : List ℕ) (m : Message) → Bytes bytes → decode bytes ≡ Some m → (bytes ≡ encode m) × MessageFits m
unfolding decode
only bytes m small e =
    let (p, first, kinds) = then_parts (int_from bytes) _ m e in
    first_kind m (nat_eq p.0 prepare_type) (nat_eq p.0 commit_type) (nat_eq p.0 checkpoint_type) (nat_eq p.0 view_change_type) (nat_eq p.0 new_view_type)
    (whole_only prepare_type prepare_rest prepares_exact Prepare (λ p. refl) (λ p f. f) bytes m p small first)
    (whole_only commit_type commit_rest commits_exact Commit (λ c. refl) (λ c f. f) bytes m p small first)
    (whole_only checkpoint_type checkpoint_rest checkpoints_exact Checkpoint (λ c. refl) (λ c f. f) bytes m p small first)
    (whole_only view_change_type view_change_rest view_changes_exact ViewChange (λ c. refl) (λ c f. f) bytes m p small first)
    (whole_only new_view_type new_view_rest new_views_exact NewView (λ n. refl) (λ n f. f) bytes m p small first)
    kinds

apart : (m k : Message) → MessageFits m → MessageFits k → encode m ≡ encode k → m ≡ k
apart m k f g e = grind (arith, sym (back m f) ∙ ap decode e ∙ back k g)

pub messages_exact : MessagesExact
messages_exact = record { back = back; only = only; apart = apart }
