-- What is tagged for one statement is one message but for its tag: a statement holds the message without it.
use Rattle.std.proofs.Common.{◌≡◌, ℕ, ◌++◌, List, length, replicate, refl, sym, ◌∙◌, ap}
use Rattle.counter.specs.Statements.{Stated}
use Rattle.parts.specs.Encoding.{untagged_prepare, untagged_commit, untagged_checkpoint}
use Rattle.parts.specs.Fits.{IsInt, PrepareFits, CommitFits, CheckpointFits}
use Rattle.parts.specs.Messages.{Prepare as Proposal, Commit as Vote, Checkpoint as Mark}
use Rattle.parts.specs.Statements.{prepare_says, commit_says, checkpoint_says}
use Rattle.message.proofs.Decoding.{messages_exact}
use Rattle.message.specs.Decoding.{encode, says}
use Rattle.message.specs.Encoding.{untagged_view_change, untagged_new_view}
use Rattle.message.specs.Fits.{ViewChangeFits}
use Rattle.message.specs.Laws.{MessageFits}
use Rattle.message.specs.Messages.{ViewChange as Change}
use Rattle.message.specs.Statements.{view_change_says}
use Rattle.message.specs.declared.message.Message.{Message}
use Rattle.message.specs.declared.message.Message.TheVariants.{Prepare, Commit, Checkpoint, ViewChange, NewView}
use Rattle.terms.specs.Numbers.{tag_bytes}
use Rattle.protocol.proofs.History.{commit_of}

-- one tag for all messages
zeros : List ℕ
zeros = replicate tag_bytes 0

zeros_long : length zeros ≡ tag_bytes
unfolding zeros
zeros_long = refl

abbrev blank_prepare : Proposal → Proposal
blank_prepare p = record p { tag = zeros }

abbrev blank_commit : Vote → Vote
blank_commit c = record c { tag = zeros }

abbrev blank_checkpoint : Mark → Mark
blank_checkpoint c = record c { tag = zeros }

abbrev blank_change : Change → Change
blank_change c = record c { tag = zeros }

abbrev retagged : Message → Message
retagged (Prepare p) = Prepare (blank_prepare p)
retagged (Commit c) = Commit (blank_commit c)
retagged (Checkpoint c) = Checkpoint (blank_checkpoint c)
retagged (ViewChange c) = ViewChange (blank_change c)
retagged (NewView w) = NewView (record w { tag = zeros })

retagged_fits : (m : Message) → MessageFits m → MessageFits (retagged m)
retagged_fits (Prepare p) f = (f.0, f.1, f.2, zeros_long)
retagged_fits (Commit c) f = (f.0, f.1, f.2, f.3, zeros_long)
retagged_fits (Checkpoint c) f = (f.0, f.1, f.2, zeros_long)
retagged_fits (ViewChange c) f = (f.0, f.1, f.2, f.3, f.4, f.5, f.6, f.7, f.8, zeros_long)
retagged_fits (NewView w) f = (f.0, f.1, f.2, f.3, f.4, zeros_long)

-- what a message with the new tag is encoded to: what it is tagged for, and the tag
retagged_bytes : (n : ℕ) (m : Message) → encode (retagged m) ≡ (says n m).message ++ zeros
unfolding untagged_prepare untagged_commit untagged_checkpoint untagged_view_change untagged_new_view
retagged_bytes n (Prepare p) = refl
retagged_bytes n (Commit c) = refl
retagged_bytes n (Checkpoint c) = refl
retagged_bytes n (ViewChange c) = refl
retagged_bytes n (NewView w) = refl

-- messages that fit are told apart by what they are tagged for, but for their tags
same_message : (n : ℕ) (m k : Message) → MessageFits m → MessageFits k → says n m ≡ says n k → retagged m ≡ retagged k
same_message n m k f g e =
    messages_exact.apart (retagged m) (retagged k) (retagged_fits m f) (retagged_fits k g)
    (retagged_bytes n m ∙ ap (λ (s : Stated). s.message ++ zeros) e ∙ sym (retagged_bytes n k))

pub same_prepare : (n : ℕ) (p q : Proposal) → PrepareFits p → PrepareFits q → prepare_says n p ≡ prepare_says n q
    → (p.view ≡ q.view) × (p.order ≡ q.order) × (p.request ≡ q.request)
same_prepare n p q f g e =
    let messages = same_message n (Prepare p) (Prepare q) f g e in
    let same : blank_prepare p ≡ blank_prepare q = cc in
    (ap (λ x. x.view) same, ap (λ x. x.order) same, ap (λ x. x.request) same)

pub same_commit : (n : ℕ) (c d : Vote) → CommitFits c → CommitFits d → commit_says n c ≡ commit_says n d
    → (c.sender ≡ d.sender) × (c.view ≡ d.view) × (c.order ≡ d.order) × (c.request ≡ d.request)
same_commit n c d f g e =
    let messages = same_message n (Commit c) (Commit d) f g e in
    let same : blank_commit c ≡ blank_commit d = cc in
    (ap (λ x. x.sender) same, ap (λ x. x.view) same, ap (λ x. x.order) same, ap (λ x. x.request) same)

pub same_checkpoint : (n : ℕ) (c d : Mark) → CheckpointFits c → CheckpointFits d → checkpoint_says n c ≡ checkpoint_says n d
    → (c.sender ≡ d.sender) × (c.order ≡ d.order) × (c.digest ≡ d.digest)
same_checkpoint n c d f g e =
    let messages = same_message n (Checkpoint c) (Checkpoint d) f g e in
    let same : blank_checkpoint c ≡ blank_checkpoint d = cc in
    (ap (λ x. x.sender) same, ap (λ x. x.order) same, ap (λ x. x.digest) same)

pub same_change : (n : ℕ) (c d : Change) → ViewChangeFits c → ViewChangeFits d → view_change_says n c ≡ view_change_says n d → c ≡ record d { tag = c.tag }
same_change n c d f g e =
    let messages = same_message n (ViewChange c) (ViewChange d) f g e in
    let same : blank_change c ≡ blank_change d = cc in
    ap {A = Change} (λ x. record x { tag = c.tag }) same

-- a PREPARE is not tagged for what a COMMIT is tagged for
pub no_commit : (n : ℕ) (p : Proposal) (c : Vote) → PrepareFits p → CommitFits c → prepare_says n p ≡ commit_says n c → ⊥
no_commit n p c f g e = let messages = same_message n (Prepare p) (Commit c) f g e in cc

-- the COMMIT for a proposal that fits
pub commit_fits : (s : ℕ) (p : Proposal) → IsInt s → PrepareFits p → CommitFits (commit_of s p)
commit_fits s p small f = (small, f.0, f.1, f.2, f.3)
