-- The code keeps the lists of the CPUs in vectors.
use Rattle.std.proofs.Common.{◌≡◌, ◌<◌, ◌+◌, ℕ, zero, suc, List, [], ◌∷◌, ◌++◌, length, map, get_or, Vec, Global, refl, sym, subst, ap, arith}
use Rattle.std.specs.Prelude.{slice_index_or, All}
use Rattle.std.proofs.lemmas.List.{length-map}
use Rattle.key_names.specs.Lanes.Book.{list_at}
use Rattle.judge_log.proofs.Dumps.{list_within}
use Rattle.judge_log.proofs.Loops.{After, after_more}

module _ {T : Type 0} where
  abbrev pub items_of : List (Vec T Global) → List (List T)
  items_of vecs = map (λ v. v.items) vecs

  pub lane_is : (vecs : List (Vec T Global)) (c : ℕ) (v : Vec T Global) → c < length vecs →
      v ≡ slice_index_or vecs c v → v.items ≡ list_at (map (λ lane. lane.items) vecs) c
  lane_is [] c v below is = absurd (omega arith)
  lane_is (x ∷ vecs) zero v below is = ap (λ (w : Vec T Global). w.items) is
  lane_is (x ∷ vecs) (suc c) v below is = lane_is vecs c v (omega arith) is

  pub items_more : (vecs : List (Vec T Global)) (v : Vec T Global) →
      map (λ (w : Vec T Global). w.items) (vecs ++ v ∷ []) ≡ map (λ (w : Vec T Global). w.items) vecs ++ v.items ∷ []
  items_more [] v = refl
  items_more (x ∷ vecs) v = ap (λ xs. x.items ∷ xs) (items_more vecs v)

-- if P and S hold of each of the first c lanes and of lane c, they hold of each of the first c + 1 lanes
pub lanes_more : {T E : Type 0} (P : ℕ → List E → Type 0) (S : ℕ → List T → List E → Type 0) (lists : List (List E))
    (c : ℕ) (made : List (Vec T Global)) (v : Vec T Global) → c < length lists →
    After P S lists c (map (λ (w : Vec T Global). w.items) made) → P c (list_at lists c) →
    S c v.items (list_at lists c) → After P S lists (c + 1) (map (λ (w : Vec T Global). w.items) (made ++ v ∷ []))
lanes_more {T = T} P S lists c made v below h p s =
    subst (λ xs. After P S lists (c + 1) xs) (sym (items_more {T = T} made v))
    (after_more P S lists c (map (λ (w : Vec T Global). w.items) made) v.items (list_at lists c)
    (list_within lists c below) h p s)

pub list_index : {E : Type 0} (xss : List (List E)) (c : ℕ) → slice_index_or xss c [] ≡ list_at xss c
list_index [] c = refl
list_index (xs ∷ xss) zero = refl
list_index (xs ∷ xss) (suc c) = list_index xss c

-- if P holds of all lanes, P holds of lane c
pub all_at : {E : Type 0} (P : List E → Type 0) (xss : List (List E)) (c : ℕ) → c < length xss → All P xss →
    P (list_at xss c)
all_at P xss c below all = subst P (list_index xss c) (all c [] below)

pub element_at : {E : Type 0} (P : E → Type 0) (xs ys : List E) (i : ℕ) (d : E) → xs ≡ ys → i < length xs → All P ys →
    P (get_or xs i d)
element_at P xs ys i d same below all = let here : All P xs = subst (λ zs. All P zs) (sym same) all in here i d below

pub items_count : {T : Type 0} (vecs : List (Vec T Global)) →
    length (map (λ (w : Vec T Global). w.items) vecs) ≡ length vecs
items_count vecs = length-map vecs (λ w. w.items)
