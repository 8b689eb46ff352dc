-- `joined` puts two results of entries together part by part: births to births, endings to endings, and so on.
use Rattle.std.proofs.Common.{◌≡◌, ◌+◌, ℕ, sym, ap, ◌∙◌, append_assoc, append-nil}
use Rattle.audit_keys.specs.Listed.{Tells, joined, nothing, all_below}
use Rattle.audit_keys.proofs.Below.{below_more}

-- `a` and `b` have equal parts, so the two results are equal
pub record AreSame (a b : Tells) : Type 0 where
  pub births : a.births ≡ b.births
  pub endings : a.endings ≡ b.endings
  pub given_up : a.given_up ≡ b.given_up
  pub keys : a.keys ≡ b.keys
  pub rests : a.rests ≡ b.rests
  pub uses : a.uses ≡ b.uses

pub tells_same : (a b : Tells) → AreSame a b → a ≡ b
tells_same a b h =
    ap (λ x. record { births = x; endings = a.endings; given_up = a.given_up; keys = a.keys; rests = a.rests; uses = a.uses }) h.births
    ∙ ap (λ x. record { births = b.births; endings = x; given_up = a.given_up; keys = a.keys; rests = a.rests; uses = a.uses }) h.endings
    ∙ ap (λ x. record { births = b.births; endings = b.endings; given_up = x; keys = a.keys; rests = a.rests; uses = a.uses }) h.given_up
    ∙ ap (λ x. record { births = b.births; endings = b.endings; given_up = b.given_up; keys = x; rests = a.rests; uses = a.uses }) h.keys
    ∙ ap (λ x. record { births = b.births; endings = b.endings; given_up = b.given_up; keys = b.keys; rests = x; uses = a.uses }) h.rests
    ∙ ap (λ x. record { births = b.births; endings = b.endings; given_up = b.given_up; keys = b.keys; rests = b.rests; uses = x }) h.uses

joined_assoc : (a b c : Tells) → joined (joined a b) c ≡ joined a (joined b c)
joined_assoc a b c = tells_same (joined (joined a b) c) (joined a (joined b c)) (record {
  births = append_assoc a.births b.births c.births;
  endings = append_assoc a.endings b.endings c.endings;
  given_up = append_assoc a.given_up b.given_up c.given_up;
  keys = append_assoc a.keys b.keys c.keys;
  rests = append_assoc a.rests b.rests c.rests;
  uses = append_assoc a.uses b.uses c.uses;
})

pub joined_nothing : (a : Tells) → joined a nothing ≡ a
joined_nothing a = tells_same (joined a nothing) a (record {
  births = append-nil a.births;
  endings = append-nil a.endings;
  given_up = append-nil a.given_up;
  keys = append-nil a.keys;
  rests = append-nil a.rests;
  uses = append-nil a.uses;
})

all_more : (tells : ℕ → Tells) (n : ℕ) → all_below (n + 1) tells ≡ joined (all_below n tells) (tells n)
all_more tells n = tells_same (all_below (n + 1) tells) (joined (all_below n tells) (tells n)) (record {
  births = below_more (λ i. (tells i).births) n;
  endings = below_more (λ i. (tells i).endings) n;
  given_up = below_more (λ i. (tells i).given_up) n;
  keys = below_more (λ i. (tells i).keys) n;
  rests = below_more (λ i. (tells i).rests) n;
  uses = below_more (λ i. (tells i).uses) n;
})

-- if the results for `n` are joined to the results for the numbers below `n`, the whole is the results for the numbers
-- below `n + 1`
pub joined_more : (tells : ℕ → Tells) (n : ℕ) (old now new : Tells) → now ≡ joined old (all_below n tells) →
    new ≡ joined now (tells n) → new ≡ joined old (all_below (n + 1) tells)
joined_more tells n old now new h more =
    more ∙ ap (λ t. joined t (tells n)) h ∙ joined_assoc old (all_below n tells) (tells n)
    ∙ ap (joined old) (sym (all_more tells n))
