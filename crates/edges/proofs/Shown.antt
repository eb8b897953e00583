-- Each edge by computation, or by the tests that its call makes.
use Rattle.std.proofs.Common.{nat_le, refl, ◌∙◌, ap, arith}
use Rattle.std.proofs.lemmas.Bool.Decides.{nat_tests}
use Rattle.message.proofs.Sizes.{message_sizes}
use Rattle.edges.specs.Edges.{Edges}
use Rattle.edges.proofs.Votes.{complete_by, left_out_refused, told_taken}

pub edges_hold : Edges
edges_hold =
    record {
      quorums = (refl, refl, refl);
      fault_limits = (refl, refl, refl);
      too_few = λ number. refl;
      too_many = λ number. refl;
      pair = refl;
      continuing = λ rule seat values number message inside. grind (arith, nat_tests);
      independent = λ rule seat values number message inside. grind (arith, nat_tests);
      bare_new_view = message_sizes.bare_of_three;
      largest_advance = λ rows r code value place. grind (arith, nat_tests);
      advance_too_large = λ rows r code value. grind (arith, nat_tests);
      vote_left_out = λ n c after two. complete_by n c after ∙ ap (nat_le 3) two;
      vote_told = λ n c after three. complete_by n c after ∙ ap (nat_le 3) three;
      left_out_refused = λ r c bytes is after awaits two. left_out_refused r c after awaits bytes is (complete_by r.size c after ∙ ap (nat_le 3) two);
      told_taken = λ r c bytes is after awaits three. told_taken r c after awaits bytes is (complete_by r.size c after ∙ ap (nat_le 3) three);
    }
