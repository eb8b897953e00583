-- Requests are exact: twenty bytes are five unsigned ints.
use Rattle.std.proofs.Common.{◌≡◌, ℕ, ◌+◌, ◌*◌, ◌<◌, List, [], ◌∷◌, ◌++◌, length, Some, sym, refl, ap, ◌∙◌, subst, arith}
use Rattle.terms.specs.Numbers.{request_bytes}
use Rattle.terms.specs.declared.requests.Request.{Request}
use Rattle.xdr.specs.Layout.{int}
use Rattle.xdr.specs.Laws.{Bytes, Exact}
use Rattle.xdr.specs.Reading.{opaque_from}
use Rattle.xdr.proofs.Exactness.{answer_parts, then_parts}
use Rattle.xdr.proofs.Opaque.{opaques_exact}
use Rattle.parts.specs.Encoding.{encode_request}
use Rattle.parts.specs.Fits.{RequestFits}
use Rattle.parts.specs.Reading.{request_of, request_from}

-- four bytes are an unsigned int
four : (a b c d : ℕ) → a < 256 → b < 256 → c < 256 → d < 256 → int (a * 16777216 + b * 65536 + c * 256 + d) ≡ a ∷ b ∷ c ∷ d ∷ []
four a b c d p q r s = grind arith

joined : {xs ys zs ws : List ℕ} → xs ≡ ys → zs ≡ ws → xs ++ zs ≡ ys ++ ws
joined {xs} {ys} {zs} {ws} e f = ap (λ l. l ++ zs) e ∙ ap (λ l. ys ++ l) f

request_back : (r : Request) → RequestFits r → request_of (encode_request r) ≡ r
unfolding encode_request request_of
request_back r f = grind (arith, f)

twenty : (part : List ℕ) → length part ≡ request_bytes → Bytes part → (part ≡ encode_request (request_of part)) × RequestFits (request_of part)
unfolding encode_request request_of
twenty (b0 ∷ b1 ∷ b2 ∷ b3 ∷ b4 ∷ b5 ∷ b6 ∷ b7 ∷ b8 ∷ b9 ∷ b10 ∷ b11 ∷ b12 ∷ b13 ∷ b14 ∷ b15 ∷ b16 ∷ b17 ∷ b18 ∷ b19 ∷ []) long small =
    let four0 = four b0 b1 b2 b3 small.0 small.1.0 small.1.1.0 small.1.1.1.0 in
    let four1 = four b4 b5 b6 b7 small.1.1.1.1.0 small.1.1.1.1.1.0 small.1.1.1.1.1.1.0 small.1.1.1.1.1.1.1.0 in
    let four2 = four b8 b9 b10 b11 small.1.1.1.1.1.1.1.1.0 small.1.1.1.1.1.1.1.1.1.0 small.1.1.1.1.1.1.1.1.1.1.0 small.1.1.1.1.1.1.1.1.1.1.1.0 in
    let four3 = four b12 b13 b14 b15 small.1.1.1.1.1.1.1.1.1.1.1.1.0 small.1.1.1.1.1.1.1.1.1.1.1.1.1.0 small.1.1.1.1.1.1.1.1.1.1.1.1.1.1.0 small.1.1.1.1.1.1.1.1.1.1.1.1.1.1.1.0 in
    let four4 = four b16 b17 b18 b19 small.1.1.1.1.1.1.1.1.1.1.1.1.1.1.1.1.0 small.1.1.1.1.1.1.1.1.1.1.1.1.1.1.1.1.1.0 small.1.1.1.1.1.1.1.1.1.1.1.1.1.1.1.1.1.1.0 small.1.1.1.1.1.1.1.1.1.1.1.1.1.1.1.1.1.1.1.0 in
    (sym (joined four0 (joined four1 (joined four2 (joined four3 four4)))), grind (arith, small))
twenty _ long small = absurd (omega (arith, long))

front_bytes : (front rest : List ℕ) → Bytes (front ++ rest) → Bytes front
front_bytes [] rest h = tt
front_bytes (b ∷ front) rest h = (h.0, front_bytes front rest h.1)

request_length : (r : Request) → length (encode_request r) ≡ request_bytes
unfolding encode_request
request_length r = refl

pub requests_exact : Exact RequestFits encode_request request_from
requests_exact =
    record {
      back = λ r rest f. rw ((opaques_exact request_bytes).back (encode_request r) rest (request_length r)) (ap (λ x. Some (x, rest)) (request_back r f));
      only = λ bytes r rest small e.
          let (p, first, made) = then_parts (opaque_from request_bytes bytes) _ (r, rest) e in
          let part = (opaques_exact request_bytes).only bytes p.0 p.1 small first in
          let same = answer_parts (request_of p.0) r p.1 rest made in
          let whole = twenty p.0 part.1 (front_bytes p.0 p.1 (subst Bytes part.0 small)) in
          (part.0 ∙ joined (whole.0 ∙ ap encode_request same.0) same.1, subst RequestFits same.0 whole.1);
    }
