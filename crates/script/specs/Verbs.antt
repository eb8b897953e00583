-- The words that the entries of a group begin with.
use Rattle.std.specs.Prelude.{ℕ, codes, find, List, [], ◌∷◌, Option}
use Rattle.script.specs.Words.{spelt}
use Rattle.script.specs.declared.verbs.Verb.{Verb}
use Rattle.script.specs.declared.verbs.Verb.TheVariants.{Other, Used, Ask, Take, Vote, Carry, Mark, Suspect, Open, Show, Certify, Deliver, Pump}

-- the word of each
abbrev pub verb_word : Verb → List ℕ
verb_word Other = codes "other"
verb_word Used = codes "used"
verb_word Ask = codes "ask"
verb_word Take = codes "take"
verb_word Vote = codes "vote"
verb_word Carry = codes "carry"
verb_word Mark = codes "mark"
verb_word Suspect = codes "suspect"
verb_word Open = codes "open"
verb_word Show = codes "show"
verb_word Certify = codes "certify"
verb_word Deliver = codes "deliver"
verb_word Pump = codes "pump"

-- all of them
abbrev pub verbs : List Verb
verbs = Other ∷ Used ∷ Ask ∷ Take ∷ Vote ∷ Carry ∷ Mark ∷ Suspect ∷ Open ∷ Show ∷ Certify ∷ Deliver ∷ Pump ∷ []

-- the one whose word this is
unfoldable pub verb_of : List ℕ → Option Verb
verb_of word = find (λ verb. spelt (verb_word verb) word) verbs
