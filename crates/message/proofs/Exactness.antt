-- VIEW-CHANGEs and NEW-VIEWs are exact.
use Rattle.std.proofs.Common.{refl, append_assoc, arith}
use Rattle.terms.specs.Numbers.{largest_quorum, window, tag_bytes}
use Rattle.xdr.specs.Laws.{Exact}
use Rattle.xdr.proofs.Exactness.{fits_like, then_exact}
use Rattle.xdr.proofs.Numbers.{ints_exact, hypers_exact}
use Rattle.xdr.proofs.Opaque.{opaques_exact}
use Rattle.xdr.proofs.Listing.{lists_exact}
use Rattle.parts.specs.Encoding.{view_change_type, new_view_type}
use Rattle.parts.proofs.Chains.{typed, next_field, last_field, writes_like}
use Rattle.parts.proofs.Exactness.{prepares_exact, checkpoints_exact}
use Rattle.message.specs.Encoding.{untagged_view_change, encode_view_change, untagged_new_view, encode_new_view}
use Rattle.message.specs.Fits.{ViewChangeFits, NewViewFits}
use Rattle.message.specs.Messages.{ViewChange, NewView}
use Rattle.message.specs.Reading.{view_change_from, view_change_rest, new_view_from, new_view_rest}

pub view_changes_exact : Exact ViewChangeFits encode_view_change view_change_from
unfolding untagged_view_change view_change_rest
view_changes_exact =
    writes_like
    (fits_like
    (typed view_change_type (omega arith)
    (then_exact ints_exact {Y = ViewChange} (λ c. c.sender) (λ sender _.
    next_field ints_exact (λ c. c.sender) (λ c. c.target) sender (λ target _.
    next_field hypers_exact (λ c. (c.sender, c.target)) (λ c. c.previous) (sender, target) (λ previous _.
    next_field ints_exact (λ c. ((c.sender, c.target), c.previous)) (λ c. c.from) ((sender, target), previous) (λ from _.
    next_field ints_exact (λ c. (((c.sender, c.target), c.previous), c.from)) (λ c. c.low) (((sender, target), previous), from) (λ low _.
    next_field (lists_exact checkpoints_exact largest_quorum (omega arith)) (λ c. ((((c.sender, c.target), c.previous), c.from), c.low)) (λ c. c.proof) ((((sender, target), previous), from), low) (λ proof _.
    next_field (lists_exact prepares_exact window (omega arith)) (λ c. (((((c.sender, c.target), c.previous), c.from), c.low), c.proof)) (λ c. c.entries) (((((sender, target), previous), from), low), proof) (λ entries _.
    last_field (opaques_exact tag_bytes) (λ c. ((((((c.sender, c.target), c.previous), c.from), c.low), c.proof), c.entries)) (λ c. c.tag) ((((((sender, target), previous), from), low), proof), entries)
    (λ k tag. record { sender = k.0.0.0.0.0.0; target = k.0.0.0.0.0.1; previous = k.0.0.0.0.1; from = k.0.0.0.1; low = k.0.0.1; proof = k.0.1; entries = k.1; tag = tag }) (λ c. refl) (λ _. refl) (λ _. refl))))))))))
    ViewChangeFits
    (λ c f. (f.0, f.1.0, f.1.1.0, f.1.1.1.0, f.1.1.1.1.0, f.1.1.1.1.1.0.0, f.1.1.1.1.1.0.1, f.1.1.1.1.1.1.0.0, f.1.1.1.1.1.1.0.1, f.1.1.1.1.1.1.1))
    (λ c f. (f.0, (f.1, (f.2, (f.3, (f.4, ((f.5, f.6), ((f.7, f.8), f.9)))))))))
    encode_view_change (λ c. grind (arith, append_assoc))

pub new_views_exact : Exact NewViewFits encode_new_view new_view_from
unfolding untagged_new_view new_view_rest
new_views_exact =
    writes_like
    (fits_like
    (typed new_view_type (omega arith)
    (then_exact ints_exact {Y = NewView} (λ n. n.view) (λ view _.
    next_field (lists_exact view_changes_exact largest_quorum (omega arith)) (λ n. n.view) (λ n. n.changes) view (λ changes _.
    next_field (lists_exact prepares_exact window (omega arith)) (λ n. (n.view, n.changes)) (λ n. n.prepares) (view, changes) (λ prepares _.
    last_field (opaques_exact tag_bytes) (λ n. ((n.view, n.changes), n.prepares)) (λ n. n.tag) ((view, changes), prepares)
    (λ k tag. record { view = k.0.0; changes = k.0.1; prepares = k.1; tag = tag }) (λ n. refl) (λ _. refl) (λ _. refl))))))
    NewViewFits
    (λ n f. (f.0, f.1.0.0, f.1.0.1, f.1.1.0.0, f.1.1.0.1, f.1.1.1))
    (λ n f. (f.0, ((f.1, f.2), ((f.3, f.4), f.5)))))
    encode_new_view (λ n. grind (arith, append_assoc))
