-- How many bytes messages have.
use Rattle.std.proofs.Common.{◌≡◌, ◌+◌, ◌*◌, ◌≤◌, List, [], ◌∷◌, ◌++◌, length, ap, arith, length-append}
use Rattle.std.specs.List.{AllByRecursion, flat_map}
use Rattle.terms.specs.Numbers.{largest_quorum, window, prepare_bytes, commit_bytes, checkpoint_bytes, shortest_view_change, longest_view_change, shortest_new_view, longest_new_view}
use Rattle.terms.specs.Quorums.{quorum_of}
use Rattle.xdr.specs.Layout.{counted}
use Rattle.xdr.proofs.Listing.{length-counted, length-counted_any, length-joined}
use Rattle.parts.specs.Encoding.{encode_request, untagged_prepare, encode_prepare, untagged_commit, encode_commit, untagged_checkpoint, encode_checkpoint}
use Rattle.parts.specs.Fits.{PrepareFits, CommitFits, CheckpointFits}
use Rattle.parts.specs.Messages.{Prepare as Prepared, Commit as Committed, Checkpoint as Checked}
use Rattle.message.specs.Decoding.{encode}
use Rattle.message.specs.Encoding.{untagged_view_change, encode_view_change, untagged_new_view, encode_new_view}
use Rattle.message.specs.Fits.{ViewChangeFits, NewViewFits}
use Rattle.message.specs.Laws.{MessageFits, MessageSizes, Bare, Full}
use Rattle.message.specs.Messages.{ViewChange as Changed, NewView as Viewed}
use Rattle.message.specs.declared.message.Message.{Message}
use Rattle.message.specs.declared.message.Message.TheVariants.{Prepare, Commit, Checkpoint, ViewChange, NewView}

prepare_size : (p : Prepared) → PrepareFits p → length (encode_prepare p) ≡ prepare_bytes
unfolding untagged_prepare encode_request
prepare_size p f = omega (arith, f.3)

commit_size : (c : Committed) → CommitFits c → length (encode_commit c) ≡ commit_bytes
unfolding untagged_commit encode_request
commit_size c f = omega (arith, f.4)

checkpoint_size : (c : Checked) → CheckpointFits c → length (encode_checkpoint c) ≡ checkpoint_bytes
unfolding untagged_checkpoint
checkpoint_size c f = omega (arith, length-append c.digest c.tag, f.2, f.3)

each : {X : Type 0} {P Q : X → Type 0} → ((x : X) → P x → Q x) → (xs : List X) → AllByRecursion P xs → AllByRecursion Q xs
each h [] all = tt
each h (x ∷ xs) all = (h x all.0, each h xs all.1)

each_of_two : {X : Type 0} {P Q R : X → Type 0} → ((x : X) → P x → Q x → R x) → (xs : List X) → AllByRecursion P xs → AllByRecursion Q xs → AllByRecursion R xs
each_of_two h [] all more = tt
each_of_two h (x ∷ xs) all more = (h x all.0 more.0, each_of_two h xs all.1 more.1)

prepares_size : (ps : List Prepared) → AllByRecursion PrepareFits ps → length (counted encode_prepare ps) ≡ 4 + prepare_bytes * length ps
prepares_size ps f = length-counted encode_prepare prepare_bytes ps (each prepare_size ps f)

view_change_size : (c : Changed) → ViewChangeFits c → length (encode_view_change c) ≡ shortest_view_change + checkpoint_bytes * length c.proof + prepare_bytes * length c.entries
unfolding untagged_view_change
view_change_size c f =
    let proof = length-counted encode_checkpoint checkpoint_bytes c.proof (each checkpoint_size c.proof f.6) in
    let entries = prepares_size c.entries f.8 in
    let lists = length-append (counted encode_checkpoint c.proof) (counted encode_prepare c.entries) in
    let whole = length-append (counted encode_checkpoint c.proof ++ counted encode_prepare c.entries) c.tag in
    omega (arith, proof, entries, lists, whole, f.9)

change_within : (c : Changed) → ViewChangeFits c → length (encode_view_change c) ≤ longest_view_change
change_within c f = omega (arith, view_change_size c f, f.5, f.7)

new_view_size : (n : Viewed) → NewViewFits n → length (encode_new_view n) ≡ shortest_new_view + length (flat_map encode_view_change n.changes) + prepare_bytes * length n.prepares
unfolding untagged_new_view
new_view_size n f =
    let changes = length-counted_any encode_view_change n.changes in
    let prepares = prepares_size n.prepares f.4 in
    let lists = length-append (counted encode_view_change n.changes) (counted encode_prepare n.prepares) in
    let whole = length-append (counted encode_view_change n.changes ++ counted encode_prepare n.prepares) n.tag in
    omega (arith, changes, prepares, lists, whole, f.5)

changes_within : (cs : List Changed) → AllByRecursion ViewChangeFits cs → length (flat_map encode_view_change cs) ≤ longest_view_change * length cs
changes_within [] f = omega arith
changes_within (c ∷ cs) f = omega (arith, length-append (encode_view_change c) (flat_map encode_view_change cs), change_within c f.0, changes_within cs f.1)

new_view_within : (n : Viewed) → NewViewFits n → length (encode_new_view n) ≤ longest_new_view
new_view_within n f = omega (arith, new_view_size n f, changes_within n.changes f.2, f.1, f.3)

within : (m : Message) → MessageFits m → length (encode m) ≤ longest_new_view
within (Prepare p) f = omega (arith, prepare_size p f)
within (Commit c) f = omega (arith, commit_size c f)
within (Checkpoint c) f = omega (arith, checkpoint_size c f)
within (ViewChange c) f = omega (arith, change_within c f)
within (NewView n) f = new_view_within n f

-- VIEW-CHANGEs that hold all that they may, and such that hold nothing
full_change : (c : Changed) → ViewChangeFits c → Full c → length (encode_view_change c) ≡ longest_view_change
full_change c f full = omega (arith, view_change_size c f, full.0, full.1)

full_view : (n : Viewed) → NewViewFits n → length n.changes ≡ largest_quorum → AllByRecursion Full n.changes → length n.prepares ≡ window → length (encode_new_view n) ≡ longest_new_view
full_view n f quorum full proposed =
    let changes = length-joined encode_view_change longest_view_change n.changes (each_of_two full_change n.changes f.2 full) in
    omega (arith, new_view_size n f, changes, quorum, proposed)

bare_change : (c : Changed) → ViewChangeFits c → Bare c → length (encode_view_change c) ≡ shortest_view_change
bare_change c f bare = omega (arith, view_change_size c f, ap length bare.0, ap length bare.1)

bare_of_three : (n : Viewed) → NewViewFits n → length n.changes ≡ quorum_of 3 → AllByRecursion Bare n.changes → n.prepares ≡ [] → length (encode_new_view n) ≡ 184
bare_of_three n f quorum bare none =
    let changes = length-joined encode_view_change shortest_view_change n.changes (each_of_two bare_change n.changes f.2 bare) in
    omega (arith, new_view_size n f, changes, quorum, ap length none)

pub message_sizes : MessageSizes
message_sizes =
    record {
      prepare = prepare_size;
      commit = commit_size;
      checkpoint = checkpoint_size;
      view_change = view_change_size;
      new_view = new_view_size;
      full_change = full_change;
      full_view = full_view;
      no_longer_change = change_within;
      no_longer = within;
      bare_of_three = bare_of_three;
    }
