-- Each turn writes the word that the words before it give.
use Rattle.std.proofs.Common.{◌≡◌, ◌+◌, ◌-◌, length, take, sym, ap, ◌∙◌, arith}
use Rattle.std.proofs.lemmas.List.{length-append, length-set, take_at, take_all, take_more_set}
use Rattle.sha256.specs.Sha256.{extended}
use Rattle.sha256.proofs.Schedules.{extended_more, extended_all}
use Rattle.sha256.proofs.compression.message_schedule.Goals as goal

pub loop-t-init : goal.loop-t-init
loop-t-init c =
    let first = c.copy_from_slice.new.self in
    let long : length first ≡ 16 = omega arith in
    record {
      long = simp length-append (omega arith);
      so_far = ap (extended 48) (take_at first _ 16 long ∙ c.copy_from_slice.ensures.after ∙ c.words.ensures);
    }

pub loop-t-preserved : goal.loop-t-preserved
loop-t-preserved c =
    let t = c.loop-t.t in
    let w = c.loop-t.w in
    record {
      long = simp length-set c.loop-t.invariant.long;
      so_far =
          ap (extended (64 - (t + 1))) (take_more_set w t c.next_word.result (omega arith))
          ∙ extended_more (64 - t) (64 - (t + 1)) t w c.next_word.result (omega arith) (omega arith) (omega arith) c.next_word.ensures
          ∙ c.loop-t.invariant.so_far;
    }

pub returns : goal.returns
returns c =
    let t = c.loop-t.t in
    let w = c.loop-t.w in
    sym (take_all t w (omega arith)) ∙ sym (extended_all (64 - t) (take t w) (omega arith)) ∙ c.loop-t.invariant.so_far
