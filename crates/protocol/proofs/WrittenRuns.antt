-- Runs in which requests are carried out, low moves, a view changes and suspicions merge, by computation.
use Rattle.std.proofs.Common.{◌≡◌, ℕ, true, List, [], ◌∷◌, ◌++◌, replicate, flat_map, take, refl, sym, subst, inl, inr, arith}
use Rattle.terms.specs.Numbers.{tag_bytes}
use Rattle.terms.specs.Pairs.{paired}
use Rattle.counter.specs.declared.kinds.Kind.TheVariants.{Independent}
use Rattle.counter.specs.Laws as counting
use Rattle.xdr.specs.Layout.{pasted, counted}
use Rattle.xdr.specs.Reading.{times_from}
use Rattle.parts.specs.Encoding.{encode_request, untagged_prepare, untagged_commit, untagged_checkpoint}
use Rattle.parts.specs.Messages.{Prepare as Proposal, Commit as Vote}
use Rattle.parts.specs.Statements.{commit_says}
use Rattle.parts.specs.Reading.{request_of, prepare_rest, commit_rest, checkpoint_rest}
use Rattle.message.specs.Decoding.{encode, decode}
use Rattle.message.specs.Encoding.{untagged_view_change, untagged_new_view}
use Rattle.message.specs.Messages.{ViewChange as Change, NewView as Opening}
use Rattle.message.specs.Reading.{view_change_rest, new_view_rest}
use Rattle.message.specs.declared.message.Message.TheVariants.{Prepare, Commit, Checkpoint, ViewChange, NewView}
use Rattle.protocol.specs.Accept.{accepted}
use Rattle.protocol.specs.Again.{proposed_again}
use Rattle.protocol.specs.Agreement.{Ordered, Committed, Founding}
use Rattle.protocol.specs.Ask.{asked}
use Rattle.protocol.specs.CarryOut.{carried_out}
use Rattle.protocol.specs.Examples.{zeros, alike, values_kept, room, request, proposal, checkpoint, first, after, Happens, RequestsAreCarriedOut, LowMoves, ViewsChange, SuspicionsMerge}
use Rattle.protocol.specs.Mark.{marked}
use Rattle.protocol.specs.Open.{own_new_view, opened}
use Rattle.protocol.specs.Runs.{Event}
use Rattle.protocol.specs.Runs.Call.{Ask, Take, Vote as Cast, CarryOut, Mark, Suspect, Open}
use Rattle.protocol.specs.Runs.Event.{At, Elsewhere}
use Rattle.protocol.specs.Sets.{◌∈◌}
use Rattle.protocol.specs.Standing.{settled}
use Rattle.protocol.specs.Suspect.{merged, suspected}
use Rattle.protocol.specs.Take.{taken}
use Rattle.protocol.specs.Vote.{voted}
use Rattle.protocol.proofs.Deciding.{is_run, runs}

group_stands : Founding 3 alike (2 ∷ []) values_kept.digest
group_stands = record { sized = refl; whole_tags = λ s. refl; few = omega arith; whole_digests = λ bytes. refl }

may_happen : (run : List Event) → is_run values_kept 3 alike (2 ∷ []) first run ≡ true → Happens run
may_happen run e = (group_stands, runs values_kept 3 alike (2 ∷ []) first run e)

-- a PREPARE and a COMMIT that reach a seat, and the COMMIT of a seat for the k-th request
abbrev proposed_to : ℕ → Proposal → Event
proposed_to seat p = At seat (Take (encode (Prepare p)))

abbrev vote : ℕ → ℕ → ℕ → Vote
vote seat view k = record { sender = seat; view = view; order = k; request = request k; tag = zeros }

abbrev voted_to : ℕ → Vote → Event
voted_to seat c = At seat (Take (encode (Commit c)))

-- seat 2 votes for another request at order 1, and has a tag for it
abbrev other_vote : Vote
other_vote = record { sender = 2; view = 0; order = 1; request = request 7; tag = zeros }

abbrev other_vote_tagged : counting.Call
other_vote_tagged = record { kind = Independent; number = 0; new = paired 0 1; message = untagged_commit other_vote }

-- a vote with a tag that is wrong
abbrev mistagged : Vote → Vote
mistagged c = record c { tag = replicate tag_bytes 1 }

-- refused: seat 1 does not lead, no follower voted yet, a wrong tag, a value for the second time, a vote for another
-- request, a vote for the second time, a vote of the leader and one for an order that has no entry, both before their tags
-- are looked at, bytes of which the last is missing
abbrev carried_out_by_both : List Event
carried_out_by_both =
    At 1 (Ask (request 1) room)
    ∷ At 0 (Ask (request 1) room)
    ∷ At 0 CarryOut
    ∷ proposed_to 1 (record (proposal 0 1) { tag = replicate tag_bytes 1 })
    ∷ proposed_to 1 (proposal 0 1)
    ∷ At 1 (Cast room)
    ∷ At 1 CarryOut
    ∷ Elsewhere 2 other_vote_tagged
    ∷ Elsewhere 2 other_vote_tagged
    ∷ voted_to 0 other_vote
    ∷ voted_to 0 (vote 1 0 1)
    ∷ voted_to 0 (vote 1 0 1)
    ∷ voted_to 1 (mistagged (vote 0 0 1))
    ∷ voted_to 1 (mistagged (vote 2 0 2))
    ∷ At 0 (Take (take 63 (encode (Prepare (proposal 0 1)))))
    ∷ At 0 CarryOut
    ∷ []

pub requests_are_carried_out : RequestsAreCarriedOut
unfolding asked taken voted carried_out settled decode pasted encode_request untagged_prepare untagged_commit prepare_rest commit_rest request_of
requests_are_carried_out = (carried_out_by_both, may_happen carried_out_by_both refl, refl, refl, refl, refl, refl, refl, refl)

-- the k-th request is proposed, voted for and carried out by both
abbrev carried_by_both : ℕ → List Event
carried_by_both k =
    At 0 (Ask (request k) room)
    ∷ proposed_to 1 (proposal 0 k)
    ∷ At 1 (Cast room)
    ∷ voted_to 0 (vote 1 0 k)
    ∷ At 0 CarryOut
    ∷ At 1 CarryOut
    ∷ []

abbrev marked_to : ℕ → ℕ → Event
marked_to seat sender = At seat (Take (encode (Checkpoint (checkpoint sender))))

-- refused: a mark before its time, the ninth request while a mark is owed, a second mark, the own CHECKPOINT, a CHECKPOINT
-- for the second time
abbrev marked_by_both : List Event
marked_by_both =
    At 1 (Mark room room)
    ∷ flat_map carried_by_both (1 ∷ 2 ∷ 3 ∷ 4 ∷ 5 ∷ 6 ∷ 7 ∷ 8 ∷ [])
    ++ At 0 (Ask (request 9) room)
    ∷ proposed_to 1 (proposal 0 9)
    ∷ At 1 (Cast room)
    ∷ voted_to 0 (vote 1 0 9)
    ∷ At 0 CarryOut
    ∷ At 0 (Mark room room)
    ∷ At 1 (Mark room room)
    ∷ At 1 (Mark room room)
    ∷ marked_to 1 1
    ∷ marked_to 1 0
    ∷ marked_to 1 0
    ∷ marked_to 0 1
    ∷ []

pub low_moves : LowMoves
unfolding asked taken voted carried_out marked settled decode pasted encode_request untagged_prepare untagged_commit untagged_checkpoint prepare_rest commit_rest checkpoint_rest request_of
low_moves = (marked_by_both, may_happen marked_by_both refl, refl, refl, refl, refl, refl, refl, refl, refl, refl, refl)

-- the VIEW-CHANGE of a seat for view 1, after a first value of its counter
abbrev view_change_by : ℕ → ℕ → List Proposal → Change
view_change_by seat previous entries = record { sender = seat; target = 1; previous = previous; from = 0; low = 0; proof = []; entries = entries; tag = zeros }

abbrev suspected_to : ℕ → Change → Event
suspected_to seat c = At seat (Take (encode (ViewChange c)))

-- seat 1 opens view 1 with the VIEW-CHANGEs of both
abbrev opening : Opening
opening = record { view = 1; changes = view_change_by 0 1 (proposal 0 1 ∷ []) ∷ view_change_by 1 1 (proposal 0 1 ∷ []) ∷ []; prepares = proposal 1 1 ∷ []; tag = zeros }

abbrev before_the_change : List Event
before_the_change =
    At 0 (Ask (request 1) room)
    ∷ proposed_to 1 (proposal 0 1)
    ∷ At 1 (Cast room)
    ∷ At 1 CarryOut
    ∷ []

-- refused: a request while the view is closed, an opening without a quorum, a VIEW-CHANGE when its view is open, a PREPARE
-- of the view before
abbrev after_the_change : List Event
after_the_change =
    At 1 (Suspect room)
    ∷ At 0 (Suspect room)
    ∷ At 0 (Ask (request 2) room)
    ∷ At 1 (Open room)
    ∷ suspected_to 1 (view_change_by 0 1 (proposal 0 1 ∷ []))
    ∷ At 1 (Open room)
    ∷ At 0 (Take (encode (NewView opening)))
    ∷ suspected_to 0 (view_change_by 1 1 (proposal 0 1 ∷ []))
    ∷ proposed_to 0 (proposal 0 1)
    ∷ At 0 (Cast room)
    ∷ At 0 CarryOut
    ∷ At 1 (Ask (request 2) room)
    ∷ proposed_to 0 (proposal 1 2)
    ∷ At 0 (Cast room)
    ∷ At 0 CarryOut
    ∷ voted_to 1 (vote 0 1 1)
    ∷ voted_to 1 (vote 0 1 2)
    ∷ At 1 CarryOut
    ∷ []

-- the PREPARE of seat 0 and the COMMIT of seat 1
ordered : (seat : ℕ) → seat ∈ (0 ∷ 1 ∷ []) → Ordered 3 (after before_the_change).issued 0 1 (request 1) seat
unfolding asked taken voted carried_out settled decode pasted encode_request untagged_prepare untagged_commit prepare_rest request_of
ordered seat i = elim i [
  | inl e ↦ inl (e, inr (inl refl))
  | inr j ↦ elim j [
    | inl e ↦ inr (subst (λ s. commit_says 3 (record { sender = s; view = 0; order = 1; request = request 1; tag = [] }) ∈ (after before_the_change).issued) (sym e) (inl refl))
    | inr k ↦ absurd k
  ]
]

committed : Committed 3 (after before_the_change).issued 0 1 (request 1)
committed =
    record {
      seats = 0 ∷ 1 ∷ [];
      many = omega arith;
      distinct = (λ i. elim i [ inl e ↦ omega arith | inr j ↦ j ], (λ i. i, tt));
      seated = λ seat i. elim i [ inl e ↦ omega arith | inr j ↦ elim j [ inl e ↦ omega arith | inr k ↦ absurd k ] ];
      ordered = ordered;
    }

pub views_change : ViewsChange
unfolding asked taken voted carried_out suspected merged opened own_new_view proposed_again accepted settled decode pasted counted times_from encode_request untagged_prepare untagged_commit untagged_view_change untagged_new_view prepare_rest commit_rest view_change_rest new_view_rest request_of
views_change = (before_the_change, after_the_change, may_happen (before_the_change ++ after_the_change) refl, committed, refl, refl, refl, refl, refl, refl, refl, refl, refl, refl, refl, refl)

-- refused: a second suspicion without a quorum, the own VIEW-CHANGE
abbrev quorum_held_by_1 : List Event
quorum_held_by_1 =
    At 0 (Ask (request 1) room)
    ∷ At 0 (Suspect room)
    ∷ At 1 (Suspect room)
    ∷ At 1 (Suspect room)
    ∷ suspected_to 1 (view_change_by 1 0 [])
    ∷ suspected_to 1 (view_change_by 0 1 (proposal 0 1 ∷ []))
    ∷ []

-- what seat 1 then tells for view 2
abbrev merged_change : Change
merged_change = record { sender = 1; target = 2; previous = paired 1 0; from = 0; low = 0; proof = []; entries = proposal 0 1 ∷ []; tag = zeros }

pub suspicions_merge : SuspicionsMerge
unfolding asked taken suspected merged settled decode pasted counted times_from encode_request untagged_prepare untagged_view_change prepare_rest view_change_rest request_of
suspicions_merge = (quorum_held_by_1, may_happen (quorum_held_by_1 ++ At 1 (Suspect room) ∷ []) refl, refl, refl, refl, refl, (merged_change, inl refl, refl, refl, refl, refl), refl)
