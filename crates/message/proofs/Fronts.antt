-- What was read stands in front of what was left, and its tag stands at its end.
use Rattle.std.proofs.Common.{Fits, w8, ◌≡◌, ℕ, ◌-◌, List, length, get_or, take, Some}
use Rattle.parts.proofs.Fronts.{front}
use Rattle.message.specs.Fits.{ViewChangeStands, NewViewStands}
use Rattle.message.specs.Messages.{ViewChange, NewView}
use Rattle.message.specs.Reading.{view_change_from, new_view_from}
use Rattle.message.proofs.Exactness.{view_changes_exact, new_views_exact}

module _ (part bytes rest : List ℕ) (is : part ≡ take (length bytes - length rest) bytes) (small : (k : ℕ) → Fits w8 (get_or bytes k 0)) where
  pub view_change_front : (c : ViewChange) → view_change_from bytes ≡ Some (c, rest) → ViewChangeStands part c
  unfolding ViewChangeStands
  view_change_front c e = let f = front part bytes rest is small view_changes_exact c e in ((f.0, f.1.9), f.1)

  pub new_view_front : (n : NewView) → new_view_from bytes ≡ Some (n, rest) → NewViewStands part n
  unfolding NewViewStands
  new_view_front n e = let f = front part bytes rest is small new_views_exact n e in ((f.0, f.1.5), f.1)
