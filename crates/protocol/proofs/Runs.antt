-- Every run keeps the rules, so that its correct replicas agree, and their low marks tell of what they carried out.
use Rattle.std.specs.Prelude.{◌==◌, nat_le, Bool, true, false}
use Rattle.std.proofs.Common.{◌≡◌, ℕ, ◌<◌, ◌≤◌, inl, inr, List, [], ◌∷◌, length, take, map, refl, sym, ◌∙◌, ap, subst, arith, replicate}
use Rattle.std.proofs.lemmas.Bool.{cond_both, eqb-true, eqb-false, and_parts, leb-true}
use Rattle.std.proofs.lemmas.List.{length-map}
use Rattle.terms.specs.Numbers.{smallest_group, largest_group, tag_bytes}
use Rattle.terms.specs.Quorums.{quorum_of, fault_limit, leader_of}
use Rattle.terms.specs.declared.requests.Request.{Request}
use Rattle.counter.specs.Certificates.{fresh_values, certificate_for}
use Rattle.counter.specs.Laws as counting
use Rattle.counter.specs.Statements.{Stated}
use Rattle.parts.specs.Fits.{PrepareFits, CheckpointFits}
use Rattle.parts.specs.Messages.{Prepare, Checkpoint}
use Rattle.parts.specs.Statements.{prepare_says, commit_says, checkpoint_says}
use Rattle.message.specs.Fits.{ViewChangeFits}
use Rattle.message.specs.Messages.{ViewChange, NewView}
use Rattle.message.specs.Statements.{view_change_says}
use Rattle.protocol.specs.Agreement.{Ordered, Agreed, Brought, ByQuorum, Proven, Marked, Founding, GroupAgrees, LaterViewsBring, LowMarksTell, after_all}
use Rattle.protocol.specs.Changes.{low_of}
use Rattle.protocol.specs.Meanings.{Meaning}
use Rattle.protocol.specs.Refusals.{answered}
use Rattle.protocol.specs.Replicas.{Replica}
use Rattle.protocol.specs.Runs.{Call, Event, History, Member, World, Came, beginning, put_on, called, came_to, counted, played, Possible, Run}
use Rattle.protocol.specs.Runs.Call.{Ask, Take, Vote, CarryOut, Mark, Suspect, Open}
use Rattle.protocol.specs.Runs.Event.{At, Elsewhere}
use Rattle.protocol.specs.Sets.{◌∈◌}
use Rattle.protocol.specs.Telling.{AnswersTell}
use Rattle.protocol.proofs.Agreement.{InOrder, lists_agree, front_lists, same_lists}
use Rattle.protocol.proofs.Alike.{prepare_says_alike, commit_says_alike}
use Rattle.protocol.proofs.Ask.{kept_ask}
use Rattle.protocol.proofs.CarryOut.{kept_carry_out}
use Rattle.protocol.proofs.Coverage.{one_correct, one_proposal, proposed_later}
use Rattle.protocol.proofs.Growth.{later, later_longer, standing_grows, accepted_grows, cause_grows, sound_grows}
use Rattle.protocol.proofs.History.{Group, Correct, Past, Legal, Voted, Proves, Proved, Standing, Accepted, Cause, Committed, Sound, Rules, commit_of}
use Rattle.protocol.proofs.Keeping.{of_seat, own_replica, Told, Fine, Kept, holds_grows, saw_grows, reached_grows, told_grows}
use Rattle.protocol.proofs.Lists.{in_either, in_map, in_put_on}
use Rattle.protocol.proofs.Mark.{kept_mark}
use Rattle.protocol.proofs.Open.{kept_open}
use Rattle.protocol.proofs.Quiet.{refused_changes_nothing}
use Rattle.protocol.proofs.Seats.{holds_founded}
use Rattle.protocol.proofs.Steps.{Ground}
use Rattle.protocol.proofs.Suspect.{kept_suspect}
use Rattle.protocol.proofs.Take.{kept_take}
use Rattle.protocol.proofs.Telling.{told}
use Rattle.protocol.proofs.Turns.{turn_view}
use Rattle.protocol.proofs.Values.{Matches, matches_fresh, matches_others, counted_legal, counted_matches, counted_by}
use Rattle.protocol.proofs.Vote.{kept_vote}

module _ (g : Group) {St : Type 0} (M : Meaning St) (start : St) (rule : Stated → List ℕ) (G : Ground g rule M.digest) where
  abbrev past_of : World St → Past
  past_of w = record { log = w.issued; accepted = w.accepted }

  -- what correct seats' CHECKPOINTs tell
  abbrev Tells : Past → Type 0
  Tells h = (c : Checkpoint) → CheckpointFits c → checkpoint_says g.seats c ∈ h.log → Correct g c.sender → Told g h M start c

  -- what a run keeps
  record Keeps (w : World St) : Type 0 where
    rules : Rules g (past_of w)
    members : (s : ℕ) → Correct g s → Fine g M start rule (past_of w) s (w.members s)
    others : (s : ℕ) → s ∈ g.faulty → Matches w.issued s (w.others s)
    tells : Tells (past_of w)

  keeps_beginning : Keeps (beginning g.seats rule start)
  keeps_beginning = record {
    rules = record { legal = tt; accepts = λ w i. absurd i; changes = λ c f i ok. absurd i; votes = λ p s ok v. elim v [ inl i ↦ absurd i.1.1 | inr i ↦ absurd i.1 ] };
    members = λ s ok. record {
      founded = record { size = refl; seat = refl; rule = refl };
      holds = holds_founded g (past_of (beginning g.seats rule start)) g.seats s rule fresh_values start;
      shows = record { below = omega arith; votes = λ v a e positive small. absurd (omega arith) };
      matches = matches_fresh s;
      saw = record { issued = λ p i. absurd i; entries = λ p i. absurd i };
      view = refl;
      reached = record { counted = refl; made = refl; done = λ i r e. absurd (cc e) };
    };
    others = λ s i. matches_fresh s;
    tells = λ c f i ok. absurd i;
  }

  -- a seat that does nothing
  fine_grows : (h : Past) (cs : List Stated) (entered : List NewView) (t : ℕ) (m : Member St) → ((x : Stated) → x ∈ cs → x.seat ≡ t → ⊥) → Fine g M start rule h t m
      → Fine g M start rule (later h cs entered) t m
  fine_grows h cs entered t m others F =
      let k = later h cs entered in
      let longer = later_longer h cs entered in
      record {
        founded = F.founded;
        holds = holds_grows g h k longer m.replica F.holds;
        shows = F.shows;
        matches = matches_others cs h.log t m.replica.values others F.matches;
        saw = saw_grows g h k longer m.history.seen m.replica F.saw;
        view = F.view;
        reached = reached_grows g h k longer M.next start m.history.carried m.replica.count m.replica.state F.reached;
      }

  -- the rules of a longer past, where what is new keeps them
  rules_grow : (h : Past) (cs : List Stated) (entered : List NewView) → Rules g h → Legal (put_on cs h.log)
      → ((w : NewView) → w ∈ entered → Accepted g (later h cs entered) w)
      → ((c : ViewChange) → ViewChangeFits c → view_change_says g.seats c ∈ cs → Correct g c.sender → Standing g (later h cs entered) c × Cause g (later h cs entered) c)
      → ((p : Prepare) → PrepareFits p → prepare_says g.seats p ∈ cs → Correct g (leader_of g.seats p.view) → Sound g (later h cs entered) p)
      → ((p : Prepare) (t : ℕ) → PrepareFits p → commit_says g.seats (commit_of t p) ∈ cs → Correct g t → Sound g (later h cs entered) p)
      → Rules g (later h cs entered)
  rules_grow h cs entered R legal views changes asks commits =
      let k = later h cs entered in
      let longer = later_longer h cs entered in
      record {
        legal = legal;
        accepts = λ w i. elim (in_either w entered h.accepted i) [ inl j ↦ views w j | inr j ↦ accepted_grows g h k longer w (R.accepts w j) ];
        changes = λ c f i ok. elim (in_put_on _ cs h.log i) [
          | inl j ↦ changes c f j ok
          | inr j ↦ let old = R.changes c f j ok in (standing_grows g h k longer c old.0, cause_grows g h k longer c old.1)
        ];
        votes = λ p s ok v. elim v [
          | inl i ↦ elim (in_put_on _ cs h.log i.1.1) [
            | inl j ↦ asks p i.1.0 j (subst (Correct g) i.0 ok)
            | inr j ↦ sound_grows g h k longer p (R.votes p s ok (inl (i.0, (i.1.0, j))))
          ]
          | inr i ↦ elim (in_put_on _ cs h.log i.1) [
            | inl j ↦ commits p s i.0 j ok
            | inr j ↦ sound_grows g h k longer p (R.votes p s ok (inr (i.0, j)))
          ]
        ];
      }

  -- the same of what CHECKPOINTs tell
  tells_grow : (h : Past) (cs : List Stated) (entered : List NewView) → Tells h
      → ((c : Checkpoint) → CheckpointFits c → checkpoint_says g.seats c ∈ cs → Correct g c.sender → Told g (later h cs entered) M start c)
      → Tells (later h cs entered)
  tells_grow h cs entered T tells c f i ok =
      let k = later h cs entered in
      let longer = later_longer h cs entered in
      elim (in_put_on _ cs h.log i) [ inl j ↦ tells c f j ok | inr j ↦ told_grows g h k longer M start c (T c f j ok) ]

  keeps_call : (w : World St) (s : ℕ) (c : Came St) → Keeps w → Correct g s → Kept g M start rule (past_of w) s c → Keeps (came_to w s c)
  keeps_call w s c K ok k = record {
    rules = rules_grow (past_of w) c.certified c.entered K.rules k.legal k.views
        (λ x f i right. k.changes x f i)
        (λ p f i right. k.asks p f i)
        (λ p t f i right. k.commits p t f (omega (arith, right.0, G.small)) i);
    members = λ t right. cond_both (t == s) c.member (w.members t) (λ m. Fine g M start rule (past_of (came_to w s c)) t m)
        (λ e. subst (λ u. Fine g M start rule (past_of (came_to w s c)) u c.member) (sym (eqb-true t s e)) k.fine)
        (λ e. fine_grows (past_of w) c.certified c.entered t (w.members t) (λ x i q. eqb-false t s e (sym q ∙ k.by x i)) (K.members t right));
    others = λ t i. matches_others c.certified w.issued t (w.others t) (λ x j q. ok.1 (subst (λ u. u ∈ g.faulty) (sym q ∙ k.by x j) i)) (K.others t i);
    tells = tells_grow (past_of w) c.certified c.entered K.tells (λ x f i right. k.tells x f i);
  }

  keeps_counted : (w : World St) (s : ℕ) (c : counting.Call) → Keeps w → s ∈ g.faulty → Keeps (counted rule w s c)
  keeps_counted w s c K bad =
      let values = w.others s in
      let new = counting.granted (counting.called rule s values c).0 (certificate_for s values c.kind c.number c.new c.message) in
      let by : (x : Stated) → x ∈ new → x.seat ≡ s = counted_by rule s values c in
      let never : (x : Stated) → x ∈ new → Correct g x.seat → ⊥ = λ x i right. right.1 (subst (λ u. u ∈ g.faulty) (sym (by x i)) bad) in
      record {
        rules = rules_grow (past_of w) new [] K.rules (counted_legal rule s values c w.issued K.rules.legal (K.others s bad))
            (λ x i. absurd i)
            (λ x f i right. absurd (never _ i right))
            (λ p f i right. absurd (never _ i right))
            (λ p t f i right. absurd (never _ i right));
        members = λ t right. fine_grows (past_of w) new [] t (w.members t) (λ x i q. right.1 (subst (λ u. u ∈ g.faulty) (sym (by x i) ∙ q) bad)) (K.members t right);
        others = λ t i. cond_both (t == s) (counting.called rule s values c).1 (w.others t) (λ vs. Matches (put_on new w.issued) t vs)
            (λ e. subst (λ u. Matches (put_on new w.issued) u (counting.called rule s values c).1) (sym (eqb-true t s e)) (counted_matches rule s values c w.issued (K.others s bad)))
            (λ e. matches_others new w.issued t (w.others t) (λ x j q. eqb-false t s e (sym q ∙ by x j)) (K.others t i));
        tells = tells_grow (past_of w) new [] K.tells (λ x f i right. absurd (never _ i right));
      }

  -- a call that is answered
  kept_called : (h : Past) → Rules g h → (s : ℕ) → Correct g s → (ρ : Replica St) (y : History) → Fine g M start rule h s (record { replica = of_seat g rule s ρ; history = y })
      → (c : Call) → Possible g.seats rule h.log c → answered M (of_seat g rule s ρ) c ≡ true
      → Kept g M start rule h s (called M (record { replica = of_seat g rule s ρ; history = y }) c)
  kept_called h R s ok ρ y F (Ask request out) may done = kept_ask g M start rule G h R s ok ρ y F request out may done
  kept_called h R s ok ρ y F (Take bytes) may done = kept_take g M start rule G h R s ρ y F bytes may.0 may.1 done
  kept_called h R s ok ρ y F (Vote out) may done = kept_vote g M start rule G h R s ok ρ y F out done
  kept_called h R s ok ρ y F CarryOut may done = kept_carry_out g M start rule G h R s ρ y F done
  kept_called h R s ok ρ y F (Mark scratch out) may done = kept_mark g M start rule G h R s ok ρ y F scratch out done
  kept_called h R s ok ρ y F (Suspect out) may done = kept_suspect g M start rule G h R s ok ρ y F out done
  kept_called h R s ok ρ y F (Open out) may done = kept_open g M start rule G h R s ρ y F out done

  -- a refused call leaves the world as it was, and any other one keeps the rules
  keeps_at : (w : World St) (s : ℕ) (c : Call) → Keeps w → Correct g s → Possible g.seats rule w.issued c → Keeps (came_to w s (called M (w.members s) c))
  keeps_at w s c K ok may = go (answered M (w.members s).replica c) refl
    where
      go : (b : Bool) → answered M (w.members s).replica c ≡ b → Keeps (came_to w s (called M (w.members s) c))
      go false e = subst Keeps (sym (refused_changes_nothing M w s c e)) K
      go true e =
          let m = w.members s in
          let F = K.members s ok in
          let own = own_replica g rule s m F.founded in
          keeps_call w s (called M m c) K ok
          (subst (λ (z : Member St). Kept g M start rule (past_of w) s (called M z c)) (sym own)
          (kept_called (past_of w) K.rules s ok m.replica m.history (subst (Fine g M start rule (past_of w) s) own F) c may (subst (λ (z : Member St). answered M z.replica c ≡ true) own e)))

  keeps_run : (es : List Event) (w : World St) → Keeps w → Run M g.seats rule g.faulty w es → Keeps (played M rule w es)
  keeps_run [] w K run = K
  keeps_run (At s c ∷ es) w K run = keeps_run es _ (keeps_at w s c K run.0.0 run.0.1) run.1
  keeps_run (Elsewhere s c ∷ es) w K run = keeps_run es _ (keeps_counted w s c K run.0) run.1

  -- what a run keeps is what is promised of it
  agreed : (w : World St) → Keeps w → Agreed M g.seats g.faulty start w
  agreed w K = record {
    unique = λ s t os ot p q ip iq. one_proposal g (past_of w) K.rules p q ((K.members s os).saw.issued p ip) ((K.members t ot).saw.issued q iq);
    lists = λ s t os ot. lists_agree g (past_of w) K.rules _ _ (K.members s os).reached.done (K.members t ot).reached.done;
    follows = λ s os. ((K.members s os).reached.counted, (K.members s os).reached.made);
    equal = λ s t os ot e.
        let a = (K.members s os).reached in
        let b = (K.members t ot).reached in
        let lists = same_lists g (past_of w) K.rules _ _ a.done b.done (a.counted ∙ e ∙ sym b.counted) in
        let same = a.made ∙ ap (after_all M.next start) lists ∙ sym b.made in
        (same, ap M.written same);
  }

  brought : (w : World St) → Keeps w → Brought M g.seats g.faulty start w
  brought w K = record {
    again = λ view order request fv fo fr C x i later.
        let tag : List ℕ = replicate tag_bytes 0 in
        let p : Prepare = record { view = view; order = order; request = request; tag = tag } in
        let bare : Prepare = record { view = view; order = order; request = request; tag = [] } in
        let fits : PrepareFits p = (fv, fo, fr, refl) in
        let voted : (s : ℕ) → Ordered g.seats w.issued view order request s → Voted g (past_of w) p s = λ s o. elim o [
          | inl a ↦ inl (a.0, (fits, subst (λ z. z ∈ w.issued) (sym (prepare_says_alike g.seats bare tag)) a.1))
          | inr a ↦ inr (fits, subst (λ z. z ∈ w.issued) (sym (commit_says_alike g.seats s bare tag)) a)
        ] in
        let committed : Committed g (past_of w) p = record { voters = C.seats; many = omega (arith, C.many, G.quorum); distinct = C.distinct; seated = C.seated; voted = λ s m. voted s (C.ordered s m) } in
        elim (proposed_later g (past_of w) K.rules p committed x i later) [
          | inl low ↦ inl low
          | inr again ↦ inr (again.0, again.1, turn_view x.view (low_of x) x.prepares again.0 (K.rules.accepts x i).run again.1, again.2, again.3)
        ];
  }

  -- what a correct seat's CHECKPOINT tells is the digest of the register behind the first requests of each list
  told_first : (h : Past) → Rules g h → (c : Checkpoint) → Told g h M start c → (rs : List Request) → InOrder g h rs → c.order ≤ length rs
      → c.digest ≡ M.digest (M.written (after_all M.next start (take c.order rs)))
  told_first h R c T rs done far =
      let a = T.reached in
      let first : T.requests ≡ take c.order rs = front_lists g h R T.requests rs a.done done (omega (arith, a.counted, far)) ∙ ap (λ k. take k rs) a.counted in
      T.digest ∙ ap (λ x. M.digest (M.written x)) (a.made ∙ ap (after_all M.next start) first)

  -- one of the seats whose CHECKPOINTs prove a low mark is correct
  one_told : (w : World St) → Keeps w → (low : ℕ) (cs : List Checkpoint) → Proves g (past_of w) low cs → (c : Checkpoint) × (c ∈ cs) × Told g (past_of w) M start c
  one_told w K low cs P =
      let sender : Checkpoint → ℕ = λ c. c.sender in
      let seated : (s : ℕ) → s ∈ map sender cs → s < g.seats = λ s i. let x = in_map sender s cs i in subst (λ u. u < g.seats) (sym x.2) (P.seated x.0 x.1) in
      let one = one_correct g (map sender cs) P.distinct seated (omega (arith, P.many, length-map cs sender)) in
      let k = in_map sender one.0 cs one.1 in
      (k.0, k.1, K.tells k.0 (P.fits k.0 k.1) (P.issued k.0 k.1) (subst (Correct g) k.2 one.2))

  -- so does a proof of a low mark
  proof_tells : (w : World St) → Keeps w → (low : ℕ) (cs : List Checkpoint) → Proved g (past_of w) low cs → (t : ℕ) → Correct g t → low ≤ (w.members t).replica.count
      → (c : Checkpoint) → c ∈ cs → c.digest ≡ M.digest (M.written (after_all M.next start (take low (w.members t).history.carried)))
  proof_tells w K low cs (inl none) t ot far c m = absurd (subst (λ xs. c ∈ xs) none.1 m)
  proof_tells w K low cs (inr P) t ot far c m =
      let b = (K.members t ot).reached in
      let (x, i, told) = one_told w K low cs P in
      let (order, digest) = P.same x i in
      (P.same c m).1 ∙ sym digest
      ∙ subst (λ k. x.digest ≡ M.digest (M.written (after_all M.next start (take k (w.members t).history.carried)))) order
      (told_first (past_of w) K.rules x told (w.members t).history.carried b.done (omega (arith, order, b.counted, far)))

  -- and it is a quorum's, for a low mark above 0
  proof_by_quorum : (w : World St) (low : ℕ) (cs : List Checkpoint) → Proved g (past_of w) low cs → 0 < low → ByQuorum M g.seats g.faulty start w low cs
  proof_by_quorum w low cs (inl none) above = absurd (omega (arith, none.0, above))
  proof_by_quorum w low cs (inr P) above = record { many = omega (arith, P.many, G.quorum); distinct = P.distinct; seated = P.seated; orders = λ c m. (P.same c m).0; issued = P.issued }

  proven : (w : World St) → Keeps w → (low : ℕ) (cs : List Checkpoint) → Proved g (past_of w) low cs → Proven M g.seats g.faulty start w low cs
  proven w K low cs P = record { quorum = proof_by_quorum w low cs P; register = λ t ot c m far. proof_tells w K low cs P t ot far c m }

  marked : (w : World St) → Keeps w → Marked M g.seats g.faulty start w
  marked w K = record {
    low = λ s os. (K.members s os).holds.numbers.low_counted;
    proof = λ s os. proven w K _ _ (K.members s os).holds.marks.proved;
    held = λ s os x i. let k = (K.members s os).holds.changes.each x i in (k.not_above, proven w K _ _ k.standing.proved);
  }

-- a group of n, of which at most f seats are not correct. Of its quorum and its fault limit only n < 2q and f < q is kept
abbrev group : (n : ℕ) (faulty : List ℕ) → length faulty ≤ fault_limit n → Group
group n faulty few = record { seats = n; quorum = quorum_of n; faulty = faulty; majority = omega arith; few = omega arith }

ground : (n : ℕ) (rule : Stated → List ℕ) (faulty : List ℕ) (digest : List ℕ → List ℕ) (F : Founding n rule faulty digest) → Ground (group n faulty F.few) rule digest
ground n rule faulty digest F =
    let sized = and_parts (nat_le smallest_group n) (nat_le n largest_group) F.sized in
    record { some = omega (arith, leb-true _ _ sized.0); small = leb-true _ _ sized.1; quorum = refl; tags = F.whole_tags; digests = F.whole_digests }

module _ {St : Type 0} (M : Meaning St) where
  -- a run from the beginning keeps it all
  kept : (n : ℕ) (rule : Stated → List ℕ) (faulty : List ℕ) (start : St) (F : Founding n rule faulty M.digest) (es : List Event) → Run M n rule faulty (beginning n rule start) es
      → Keeps (group n faulty F.few) M start rule (ground n rule faulty M.digest F) (played M rule (beginning n rule start) es)
  kept n rule faulty start F es run =
      let g = group n faulty F.few in
      let G = ground n rule faulty M.digest F in
      keeps_run g M start rule G es _ (keeps_beginning g M start rule G) run

  pub group_agrees : GroupAgrees M
  group_agrees n rule faulty start F es run = agreed _ M start rule (ground n rule faulty M.digest F) _ (kept n rule faulty start F es run)

  pub later_views_bring : LaterViewsBring M
  later_views_bring n rule faulty start F es run = brought _ M start rule (ground n rule faulty M.digest F) _ (kept n rule faulty start F es run)

  pub low_marks_tell : LowMarksTell M
  low_marks_tell n rule faulty start F es run = marked _ M start rule (ground n rule faulty M.digest F) _ (kept n rule faulty start F es run)

  pub answers_tell : AnswersTell M
  answers_tell n rule faulty start F es run seat ok =
      let K = kept n rule faulty start F es run in
      told _ M start rule (ground n rule faulty M.digest F) _ K.rules seat ok _ (K.members seat ok)
