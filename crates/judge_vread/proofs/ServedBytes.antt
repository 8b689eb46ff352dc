-- The bytes of a recipe can be made piece by piece.
use Rattle.std.proofs.Common.{◌≡◌, ℕ, ◌+◌, ◌-◌, ◌≤◌, ◌<◌, ◌^◌, List, ◌++◌, length, take, drop, refl, sym, subst, ap, ◌∙◌, append_assoc, Ok, Err, arith}
use Rattle.std.specs.Prelude.{Result, OnErr, slice_range}
use Rattle.std.proofs.Math.Seq.{take-add, take-append-add, drop-append_seam}
use Rattle.std.proofs.lemmas.List.{length-append, length-take-le, take-append-drop}
use Rattle.key_names.specs.Kernel.Keystream.{keystream}
use Rattle.judge_vread.specs.Recipe.{Recipe, bytes_made}
use Rattle.key_names.proofs.Standards.Keystreams.{length-keystream, keystream-append, slice_range-keystream}

pub length_made : (front key : List ℕ) (k from len : ℕ) → k ≤ length front →
    k + len ≡ length (take k front ++ keystream key from len)
length_made front key k from len within =
    ap (λ n. n + len) (sym (length-take-le k front within))
    ∙ ap (λ n. length (take k front) + n) (sym (length-keystream key from len))
    ∙ sym (length-append (take k front) (keystream key from len))

-- if the lengths of a recipe's two parts add up to fewer than 2^32, the recipe makes fewer than 2^32 bytes
pub few_made : (front key : List ℕ) (k from len : ℕ) (r : Recipe) → k ≤ length front → k + len < 2 ^ 32 →
    record { front = take k front; key = key; from = from; len = len } ≡ r → length (bytes_made r) < 2 ^ 32
few_made front key k from len r within few is =
    subst (λ n. n < 2 ^ 32) (length_made front key k from len within ∙ ap (λ r. length (bytes_made r)) is) few

-- let `items` be `old` with the stream's first `done` bytes appended. With its next `next` bytes appended, `old` has
-- its first `done + next` bytes appended
pub put_more : (old items more part key : List ℕ) (from done next : ℕ) → items ≡ old ++ keystream key from done →
    part ≡ keystream key (from + done) next → more ≡ items ++ part → more ≡ old ++ keystream key from (done + next)
put_more old items more part key from done next were is made =
    made ∙ ap (λ x. x ++ part) were ∙ append_assoc old (keystream key from done) part
    ∙ ap (λ x. old ++ x) (ap (λ x. keystream key from done ++ x) is
    ∙ keystream-append key from done (from + done) next (done + next) refl (λ some. refl))

pub on_err : {T E : Type 0} (result : Result T E) (P : Type 0) → P → OnErr result P
on_err (Ok value) P p = tt
on_err (Err error) P p = p

-- let a put append `front`, and then fail after a prefix of `made`. Then it has appended a prefix of front ++ made
pub put_some : {T E : Type 0} (result : Result T E) (old mid items front made : List ℕ) → mid ≡ old ++ front →
    OnErr result ((n : ℕ) × (items ≡ mid ++ take n made)) →
    OnErr result ((n : ℕ) × (items ≡ old ++ take n (front ++ made)))
put_some (Ok done) old mid items front made were part = part
put_some (Err error) old mid items front made were part = (
  length front + part.0,
  part.1 ∙ ap (λ x. x ++ take part.0 made) were ∙ append_assoc old front (take part.0 made)
      ∙ ap (λ x. old ++ x) (sym (take-append-add front made part.0)),
)

pub same_more : (bytes key : List ℕ) (from done next : ℕ) → take done bytes ≡ keystream key from done →
    take next (drop done bytes) ≡ keystream key (from + done) next → take (done + next) bytes ≡ keystream key from (done + next)
same_more bytes key from done next were is =
    take-add done next bytes ∙ ap (λ x. x ++ take next (drop done bytes)) were
    ∙ ap (λ x. keystream key from done ++ x) is
    ∙ keystream-append key from done (from + done) next (done + next) refl (λ some. refl)

-- if all of `bytes` equals the key's stream from `from` on, each piece of `bytes` equals the stream's piece at the same
-- offset
pub piece_same : (bytes key : List ℕ) (from done next : ℕ) → done + next ≤ length bytes →
    bytes ≡ keystream key from (length bytes) → take next (drop done bytes) ≡ keystream key (from + done) next
piece_same bytes key from done next within is =
    let there : done + next - done ≡ next = omega arith in
    ap (λ n. take n (drop done bytes)) (sym there)
    ∙ ap (λ x. slice_range x done (done + next)) is
    ∙ slice_range-keystream key from (length bytes) done (done + next) (omega arith) within
    ∙ ap (keystream key (from + done)) there

pub other_part : (bytes front made rest : List ℕ) → rest ≡ drop (length front) bytes → bytes ≡ front ++ made →
    rest ≡ made
other_part bytes front made rest is all = is ∙ ap (drop (length front)) all ∙ drop-append_seam front made

pub both_parts : (bytes front made first rest : List ℕ) → first ≡ take (length front) bytes →
    rest ≡ drop (length front) bytes → first ≡ front → rest ≡ made → bytes ≡ front ++ made
both_parts bytes front made first rest f r is same =
    sym (take-append-drop (length front) bytes) ∙ ap (λ x. x ++ drop (length front) bytes) (sym f ∙ is)
    ∙ ap (λ x. front ++ x) (sym r ∙ same)
