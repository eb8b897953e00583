-- Messages that are tagged for the same statement are as good as one another: nothing but the tag tells them apart.
use Rattle.std.proofs.Common.{◌≡◌, ℕ, List, refl, sym, ap, ◌∙◌, subst}
use Rattle.parts.specs.Encoding.{untagged_prepare, untagged_commit}
use Rattle.parts.specs.Fits.{PrepareFits}
use Rattle.parts.specs.Messages.{Prepare}
use Rattle.parts.specs.Statements.{prepare_says, commit_says}
use Rattle.message.specs.Encoding.{untagged_view_change}
use Rattle.message.specs.Fits.{ViewChangeFits}
use Rattle.message.specs.Messages.{ViewChange}
use Rattle.message.specs.Statements.{view_change_says}
use Rattle.protocol.proofs.Apart.{same_change}
use Rattle.protocol.proofs.History.{Group, Past, Standing, Cause, Sound, commit_of}
use Rattle.protocol.specs.Sets.{◌∈◌}

-- no statement depends on the tag of its message
pub prepare_says_alike : (n : ℕ) (p : Prepare) (tag : List ℕ) → prepare_says n (record p { tag = tag }) ≡ prepare_says n p
unfolding untagged_prepare
prepare_says_alike n p tag = refl

pub commit_says_alike : (n s : ℕ) (p : Prepare) (tag : List ℕ) → commit_says n (commit_of s (record p { tag = tag })) ≡ commit_says n (commit_of s p)
unfolding untagged_commit
commit_says_alike n s p tag = refl

view_change_says_alike : (n : ℕ) (c : ViewChange) (tag : List ℕ) → view_change_says n (record c { tag = tag }) ≡ view_change_says n c
unfolding untagged_view_change
view_change_says_alike n c tag = refl

module _ (g : Group) (h : Past) where
  -- a VIEW-CHANGE with another tag
  change_retagged : (d : ViewChange) (tag : List ℕ) → ViewChangeFits (record d { tag = tag }) → Standing g h d × Cause g h d
      → Standing g h (record d { tag = tag }) × Cause g h (record d { tag = tag })
  change_retagged d tag fits (s, why) = (
    record {
      issued = subst (λ x. x ∈ h.log) (sym (view_change_says_alike g.seats d tag)) s.issued;
      fits = fits;
      complete = record { rises = s.complete.rises; older = s.complete.older; run = s.complete.run; votes = s.complete.votes };
      proved = s.proved;
      prepared = s.prepared;
      noted = s.noted;
    },
    why,
  )

  pub change_alike : (c d : ViewChange) → ViewChangeFits c → view_change_says g.seats c ≡ view_change_says g.seats d → Standing g h d × Cause g h d → Standing g h c × Cause g h c
  change_alike c d fits says s =
      let same = same_change g.seats c d fits s.0.fits says in
      subst (λ x. Standing g h x × Cause g h x) (sym same) (change_retagged d c.tag (subst ViewChangeFits same fits) s)

  pub sound_alike : (p q : Prepare) → PrepareFits p → (p.view ≡ q.view) × (p.order ≡ q.order) × (p.request ≡ q.request) → Sound g h q → Sound g h p
  sound_alike p q f (view, order, request) s =
      let same : p ≡ record q { tag = p.tag } = λ i. record { view = view i; order = order i; request = request i; tag = p.tag } in
      let statement = ap (prepare_says g.seats) same ∙ prepare_says_alike g.seats q p.tag in
      record {
        positive = rw order s.positive;
        issued = (f, subst (λ x. x ∈ h.log) (sym statement) s.issued.1);
        opened = rw (view, order) s.opened;
      }
