-- How bytes are read as messages that hold others.
use Rattle.std.specs.Prelude.{ℕ, List, Option, Some}
use Rattle.terms.specs.Numbers.{largest_quorum, window, tag_bytes}
use Rattle.xdr.specs.Reading.{and_then, int_from, hyper_from, opaque_from, list_from}
use Rattle.parts.specs.Encoding.{view_change_type, new_view_type}
use Rattle.parts.specs.Reading.{of_type, checkpoint_from, prepare_from}
use Rattle.message.specs.Messages.{ViewChange, NewView}

-- behind the type of a VIEW-CHANGE
unfoldable pub view_change_rest : List ℕ → Option (ViewChange × List ℕ)
view_change_rest bytes =
    and_then (int_from bytes) (λ sender rest.
    and_then (int_from rest) (λ target rest.
    and_then (hyper_from rest) (λ previous rest.
    and_then (int_from rest) (λ from rest.
    and_then (int_from rest) (λ low rest.
    and_then (list_from checkpoint_from largest_quorum rest) (λ proof rest.
    and_then (list_from prepare_from window rest) (λ entries rest.
    and_then (opaque_from tag_bytes rest) (λ tag rest.
    Some (record { sender = sender; target = target; previous = previous; from = from; low = low; proof = proof; entries = entries; tag = tag }, rest)))))))))

abbrev pub view_change_from : List ℕ → Option (ViewChange × List ℕ)
view_change_from = of_type view_change_type view_change_rest

-- behind the type of a NEW-VIEW
unfoldable pub new_view_rest : List ℕ → Option (NewView × List ℕ)
new_view_rest bytes =
    and_then (int_from bytes) (λ view rest.
    and_then (list_from view_change_from largest_quorum rest) (λ changes rest.
    and_then (list_from prepare_from window rest) (λ prepares rest.
    and_then (opaque_from tag_bytes rest) (λ tag rest.
    Some (record { view = view; changes = changes; prepares = prepares; tag = tag }, rest)))))

abbrev pub new_view_from : List ℕ → Option (NewView × List ℕ)
new_view_from = of_type new_view_type new_view_rest
