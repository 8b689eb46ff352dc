-- In lawful lanes, each visit serves the bytes of the named spans that its entry serves.
use Rattle.std.proofs.Common.{◌≡◌, ℕ, zero, suc, ◌+◌, ◌*◌, ◌≤◌, Bool, true, false, List, [], ◌∷◌, ◌++◌, inl, inr, refl, sym, subst, ap, ◌∙◌, arith, Some, None, Option, take, nat_lt, append-nil}
use Rattle.std.specs.Prelude.{slice_get, option_and_then, if◌then◌else◌}
use Rattle.std.specs.List.{fold}
use Rattle.key_names.specs.declared.names.LaneId.TheVariants.{Base as BaseLane, Cpu as CpuLane}
use Rattle.key_names.specs.declared.names.KeyName.{KeyName}
use Rattle.key_names.specs.declared.names.KeyName.TheVariants.{Root, Base, Call}
use Rattle.key_names.specs.declared.entries.Taken.{Taken}
use Rattle.key_names.specs.declared.entries.Taken.TheVariants.{User, Kernel}
use Rattle.key_names.specs.declared.entries.BaseEntry.{BaseEntry}
use Rattle.key_names.specs.declared.entries.BaseEntry.TheVariants.{Early, Reseed, Tick, Draw, Refill, Fork, End, Wait, Resume, Interrupt, Stall, Unstall}
use Rattle.key_names.specs.Kernel.Keystream.{keystream}
use Rattle.key_names.specs.Keys.KeyInUse.{value_of, taken_bytes, base_used_at, base_value_at, base_value_after, base_value_in_use}
use Rattle.key_names.specs.Lanes.Book.{Lists}
use Rattle.key_names.specs.Lanes.BaseList.{BaseState, Phase, empty, early, base_after, base_step, base_start, base_key_in_use, BaseFits, BaseMayCome, LawfulBase}
use Rattle.key_names.specs.Callers.Effects.{base_visit}
use Rattle.key_names.specs.Keys.Uses.{read_uses, use_of, kept, served, named_uses}
use Rattle.key_names.specs.Keys.ServedNamed.{served_in, base_place_uses}
use Rattle.key_names.specs.Transcripts.StatesReplayed.{HasName}
use Rattle.key_names.proofs.Lists.Growing.{may_at}
use Rattle.key_names.proofs.Values.Named.{base_key_at, base_key_named}
use Rattle.std.specs.Option.{option_map_or}
use Rattle.std.proofs.lemmas.List.Sums.{fold-append}
use Rattle.std.specs.Prelude.{◌==◌}
use Rattle.std.proofs.Common.{length}
use Rattle.key_names.specs.declared.names.KeyName.TheVariants.{Cpu}
use Rattle.key_names.specs.declared.entries.CpuEntry.{CpuEntry}
use Rattle.key_names.specs.declared.entries.CpuEntry.TheVariants.{Read, Int, Irq, Dump, Prepare, Online}
use Rattle.key_names.specs.Kernel.Batches.{Fill, one_more_served}
use Rattle.key_names.specs.Lanes.CpuList.{CpuState, CpuMayCome, LawfulCpu, ReadFits, IntFits, cpu_start, cpu_step, cpu_after, cpu_key_in_use, call_or, generation_or}
use Rattle.key_names.specs.Keys.KeyInUse.{cpu_used_at, cpu_value_at, cpu_value_after, cpu_value_in_use}
use Rattle.key_names.specs.Lanes.Book.{cpu_list}
use Rattle.key_names.specs.Callers.Effects.{cpu_visit, int_of}
use Rattle.key_names.specs.Keys.Uses.{is_rekeyed, batch_uses, named_use}
use Rattle.key_names.specs.Keys.ServedNamed.{cpu_place_uses, LawfulServesNamed}
use Rattle.key_names.proofs.Values.Named.{cpu_key_at, cpu_key_named, every_front}
use Rattle.key_names.proofs.Values.HeldBytes.{entry_after, front_of}

-- let `key` name the key in use, and `call` the key that bytes 32 to 64 of that key's keystream make. Then a read
-- serves the bytes of its named spans
module _ (lists : Lists) (key call : KeyName) (used : List ℕ) (is : value_of lists key ≡ used)
    (next : value_of lists call ≡ keystream used 32 32) where
  user_named : (n : ℕ) (b : Bool) →
      (if b then keystream (keystream used 32 32) 64 n else keystream used 32 n)
      ≡ served_in lists (if b then use_of kept key 32 32 ∷ use_of served call 64 n ∷ []
      else (if false then use_of kept key 32 32 else use_of served key 32 n) ∷ [])
  user_named n true = ap (λ v. keystream v 64 n) (sym next) ∙ sym (append-nil (keystream (value_of lists call) 64 n))
  user_named n false = ap (λ v. keystream v 32 n) (sym is) ∙ sym (append-nil (keystream (value_of lists key) 32 n))

  pub read_named : (rekeys : Bool) (taken : Taken) → rekeys ≡ false →
      taken_bytes used taken ≡ served_in lists (read_uses rekeys key call taken)
  read_named true taken none = cc
  read_named false (Kernel n) none =
      ap (λ v. keystream v 32 n) (sym is) ∙ sym (append-nil (keystream (value_of lists key) 32 n))
  read_named false (User n) none = user_named n (nat_lt 32 n)

-- if each entry adds 1 to the place, then the state before entry `i` has the place `place s + i`
pub place_at : {S E : Type 0} (place : S → ℕ) (step : S → E → S) → ((s : S) (e : E) → place (step s e) ≡ suc (place s)) →
    (s : S) (xs : List E) (i : ℕ) (e : E) → slice_get xs i ≡ Some e → place (fold step s (take i xs)) ≡ place s + i
place_at place step next s [] i e is = cc
place_at place step next s (x ∷ xs) zero e is = omega arith
place_at place step next s (x ∷ xs) (suc i) e is =
    let p : place (fold step (step s x) (take i xs)) ≡ place (step s x) + i =
    place_at place step next (step s x) xs i e is in
    let q : place (step s x) ≡ suc (place s) = next s x in omega arith

-- if the base is past the phase `empty`, its key has a name
abbrev BaseKeyed : BaseState → Type 0
BaseKeyed s = (s.phase ≡ empty → ⊥) → HasName s.key

keyed_step : (s : BaseState) (e : BaseEntry) → BaseKeyed s → BaseKeyed (base_step s e)
keyed_step s (Early None) keyed = keyed
keyed_step s (Early (Some r)) keyed = λ late. (Root r, refl)
keyed_step s (Reseed r now) keyed = λ late. (Root r, refl)
keyed_step s (Tick now None) keyed = keyed
keyed_step s (Tick now (Some r)) keyed = λ late. (Root r, refl)
keyed_step s (Draw o taken) keyed = λ late. (Base s.place, refl)
keyed_step s (Refill c k) keyed = λ late. (Base s.place, refl)
keyed_step s (Fork child) keyed = keyed
keyed_step s End keyed = keyed
keyed_step s Wait keyed = keyed
keyed_step s Resume keyed = keyed
keyed_step s Interrupt keyed = keyed
keyed_step s Stall keyed = keyed
keyed_step s Unstall keyed = keyed

base_keyed : (s : BaseState) (es : List BaseEntry) → BaseKeyed s → BaseKeyed (fold base_step s es)
base_keyed s [] keyed = keyed
base_keyed s (e ∷ es) keyed = base_keyed (base_step s e) es (keyed_step s e keyed)

late_phase : (p q : Phase) → p ≡ q → (q ≡ empty → ⊥) → p ≡ empty → ⊥
late_phase p q is other none = other (sym is ∙ none)

early_late : early ≡ empty → ⊥
early_late is = cc

-- if BaseKeyed holds for the state s, and a draw may come in s (`BaseFits`), then the key in use at the draw has a name
draw_keyed : (s : BaseState) (o : Option ℕ) (taken : Taken) → BaseKeyed s → BaseFits s (Draw o taken) →
    HasName (base_key_in_use (Draw o taken) s.key)
draw_keyed s None taken keyed fits = keyed (late_phase s.phase early fits early_late)
draw_keyed s (Some r) taken keyed fits = (Root r, refl)

module _ (lists : Lists) (lawful : LawfulBase lists.pool lists.base) where
  base_used_is : (i : ℕ) (e : BaseEntry) → slice_get lists.base i ≡ Some e →
      base_used_at lists.pool lists.base i
      ≡ base_value_in_use lists.pool e (base_value_after lists.pool (take i lists.base))
  base_used_is i e is = ap (base_value_at lists.pool (base_value_after lists.pool (take i lists.base))) is

  base_key_is : (i : ℕ) (e : BaseEntry) → slice_get lists.base i ≡ Some e →
      base_key_at lists i ≡ base_key_in_use e (base_after (take i lists.base)).key
  base_key_is i e is =
      ap (option_and_then (λ e. base_key_in_use e (base_after (take i lists.base)).key)) is

  drawn : (i : ℕ) (o : Option ℕ) (taken : Taken) → slice_get lists.base i ≡ Some (Draw o taken) →
      (base_visit lists i (Draw o taken)).serves ≡ served_in lists (base_place_uses lists i (Draw o taken))
  drawn i o taken is =
      let e : BaseEntry = Draw o taken in
      let s : BaseState = base_after (take i lists.base) in
      let may : BaseMayCome lists.pool s e = may_at (BaseMayCome lists.pool) base_step base_start lists.base i e lawful is
      in
      let key : HasName (base_key_in_use e s.key) =
      draw_keyed s o taken (base_keyed base_start (take i lists.base) (λ late. absurd (late refl))) may.fits in
      let at : s.place ≡ i = (let p : s.place ≡ 0 + i = place_at (λ s. s.place) base_step (λ s e. refl) base_start
      lists.base i e is in omega arith) in
      let used : List ℕ = base_value_in_use lists.pool e (base_value_after lists.pool (take i lists.base)) in
      let value : value_of lists key.0 ≡ used =
      base_key_named lists i key.0 (base_key_is i e is ∙ key.1) ∙ base_used_is i e is in
      let next : value_of lists (Call BaseLane s.place) ≡ keystream used 32 32 =
      ap (λ j. value_of lists (Call BaseLane j)) at ∙ ap (λ v. keystream v 32 32) (base_used_is i e is) in
      read_named lists key.0 (Call BaseLane s.place) used value next false taken refl
      ∙ ap (λ o. served_in lists (named_uses o (λ key. read_uses false key (Call BaseLane s.place) taken))) (sym key.1)

  -- each visit of the base serves the bytes of the named spans that its entry serves
  pub base_visit_named : (i : ℕ) (e : BaseEntry) → slice_get lists.base i ≡ Some e →
      (base_visit lists i e).serves ≡ served_in lists (base_place_uses lists i e)
  base_visit_named i (Draw o taken) is = drawn i o taken is
  base_visit_named i (Refill c k) is = go (base_after (take i lists.base)).key
    where
      go : (o : Option KeyName) → [] ≡ served_in lists
          (named_uses o (λ key. use_of kept key 0 32 ∷ use_of kept key 32 32 ∷ []))
      go None = refl
      go (Some key) = refl
  base_visit_named i (Early r) is = refl
  base_visit_named i (Reseed r now) is = refl
  base_visit_named i (Tick now r) is = refl
  base_visit_named i (Fork child) is = refl
  base_visit_named i End is = refl
  base_visit_named i Wait is = refl
  base_visit_named i Resume is = refl
  base_visit_named i Interrupt is = refl
  base_visit_named i Stall is = refl
  base_visit_named i Unstall is = refl

-- the fill `f` was made from the key in use at the fill's place, and this key has a name
module _ (lists : Lists) (c : ℕ) where
  record FillOk (f : Fill) : Type 0 where
    used_key : cpu_key_at lists c f.place ≡ f.key
    keyed : HasName f.key

  -- in the state s of a CPU: if the generation is above 0, the key has a name; and `FillOk` holds for the last fill of
  -- each width
  record CpuOk (s : CpuState) : Type 0 where
    keyed : 1 ≤ s.generation → HasName s.key
    fills : (w : ℕ) (f : Fill) → s.fills w ≡ Some f → FillOk f

  same_fill_ok : (g f : Fill) → g.place ≡ f.place → g.key ≡ f.key → FillOk g → FillOk f
  same_fill_ok g f place key ok = record {
    used_key = ap (cpu_key_at lists c) (sym place) ∙ ok.used_key ∙ key;
    keyed = (ok.keyed.0, sym key ∙ ok.keyed.1);
  }

  call_keyed : (o : Option ℕ) (g : ℕ) (key : Option KeyName) → (1 ≤ g → HasName key) →
      1 ≤ generation_or lists.base o g → HasName (call_or o key)
  call_keyed None g key keyed some = keyed some
  call_keyed (Some b) g key keyed some = (Call BaseLane b, refl)

  fill_ok : (b : Bool) (name : Option KeyName) (place look : ℕ) (o : Option Fill) (f : Fill) →
      (if b then Some (record { key = name; place = place; count = 1; look = look }) else o) ≡ Some f →
      cpu_key_at lists c place ≡ name → HasName name → (o ≡ Some f → FillOk f) → FillOk f
  fill_ok true name place look o f is used keyed old =
      let new : Fill = record { key = name; place = place; count = 1; look = look } in
      same_fill_ok new f (ap (λ o. option_map_or (λ (x : Fill). x.place) o place) is)
      (ap (λ o. option_map_or (λ (x : Fill). x.key) o name) is) (record { used_key = used; keyed = keyed })
  fill_ok false name place look o f is used keyed old = old is

  more_ok : (b : Bool) (o : Option Fill) (f : Fill) → (if b then one_more_served o else o) ≡ Some f →
      ((g : Fill) → o ≡ Some g → FillOk g) → FillOk f
  more_ok false o f is old = old f is
  more_ok true None f is old = cc
  more_ok true (Some g) f is old =
      same_fill_ok g f (ap (λ o. option_map_or (λ (x : Fill). x.place) o 0) is)
      (ap (λ o. option_map_or (λ (x : Fill). x.key) o None) is) (old g refl)

  -- if CpuOk holds for the state s, and a read may come in s (`ReadFits`), then the key in use at the read has a name.
  -- The same is true of an integer that fills its batch
  read_keyed : (s : CpuState) (look : ℕ) (refill : Option ℕ) → CpuOk s → ReadFits s look refill →
      HasName (call_or refill s.key)
  read_keyed s look None ok fits =
      let g : look ≡ s.generation = fits.names.0 refl in let known : 1 ≤ look = fits.looks.known in
      ok.keyed (omega arith)
  read_keyed s look (Some b) ok fits = (Call BaseLane b, refl)

  int_keyed : (s : CpuState) (look width : ℕ) (refill : Option ℕ) → CpuOk s → IntFits s look refill width true →
      HasName (call_or refill s.key)
  int_keyed s look width None ok fits = elim (fits.names.0 refl) [
    | inl none ↦ cc
    | inr g ↦ (let known : 1 ≤ look = fits.looks.known in ok.keyed (omega arith))
  ]
  int_keyed s look width (Some b) ok fits = (Call BaseLane b, refl)

  cpu_ok_step : (s : CpuState) (e : CpuEntry) → CpuMayCome lists.base c s e →
      cpu_key_at lists c s.place ≡ cpu_key_in_use e s.key → CpuOk s → CpuOk (cpu_step lists.base c s e)
  cpu_ok_step s (Read look refill taken) may at ok =
      record { keyed = λ some. (Cpu c s.place, refl); fills = ok.fills }
  cpu_ok_step s (Int look refill width true) may at ok = record {
    keyed = λ some. (Cpu c s.place, refl);
    fills = λ w f is. fill_ok (w == width) (call_or refill s.key) s.place look (s.fills w) f is at
        (int_keyed s look width refill ok may.fits) (ok.fills w f);
  }
  cpu_ok_step s (Int look refill width false) may at ok = record {
    keyed = call_keyed refill s.generation s.key ok.keyed;
    fills = λ w f is. more_ok (w == width) (s.fills w) f is (ok.fills w);
  }
  cpu_ok_step s (Irq v1 v2 now) may at ok = record { keyed = ok.keyed; fills = ok.fills }
  cpu_ok_step s (Dump now) may at ok = record { keyed = ok.keyed; fills = ok.fills }
  cpu_ok_step s Prepare may at ok = record { keyed = λ some. absurd (omega arith); fills = λ w f is. cc }
  cpu_ok_step s Online may at ok = record { keyed = ok.keyed; fills = ok.fills }

  abbrev es : List CpuEntry
  es = cpu_list lists c

  abbrev cpu_at : ℕ → CpuState
  cpu_at k = cpu_after lists.base c (take k es)

  cpu_key_is : (k : ℕ) (e : CpuEntry) → slice_get es k ≡ Some e →
      cpu_key_at lists c k ≡ cpu_key_in_use e (cpu_at k).key
  cpu_key_is k e is = ap (option_and_then (λ e. cpu_key_in_use e (cpu_at k).key)) is

  cpu_used_is : (k : ℕ) (e : CpuEntry) → slice_get es k ≡ Some e →
      cpu_used_at lists c k ≡ cpu_value_in_use lists e (cpu_value_after lists (take k es))
  cpu_used_is k e is = ap (cpu_value_at lists (cpu_value_after lists (take k es))) is

  cpu_place_is : (k : ℕ) (e : CpuEntry) → slice_get es k ≡ Some e → (cpu_at k).place ≡ k
  cpu_place_is k e is =
      let p : (cpu_at k).place ≡ 0 + k = place_at (λ s. s.place) (cpu_step lists.base c) (λ s e. refl) cpu_start es k e
      is in omega arith

  module _ (lawful : LawfulCpu lists.base c (cpu_list lists c)) where
    may_come : (k : ℕ) (e : CpuEntry) → slice_get es k ≡ Some e → CpuMayCome lists.base c (cpu_at k) e
    may_come k e is = may_at (CpuMayCome lists.base c) (cpu_step lists.base c) cpu_start es k e lawful is

    front_ok_more : (front : List CpuEntry) (e : CpuEntry) (rest : List CpuEntry) → es ≡ (front ++ e ∷ []) ++ rest →
        CpuOk (cpu_after lists.base c front) → CpuOk (cpu_after lists.base c (front ++ e ∷ []))
    front_ok_more front e rest is ok =
        let k : ℕ = length front in
        let s : CpuState = cpu_after lists.base c front in
        let there : slice_get es k ≡ Some e = entry_after es front e rest is in
        let front_is : take k es ≡ front = front_of es front e rest is in
        let may : CpuMayCome lists.base c s e =
        (let P : List CpuEntry → Type 0 = λ xs. CpuMayCome lists.base c (cpu_after lists.base c xs) e in
        subst P front_is (may_come k e there)) in
        let place : s.place ≡ k = ap (λ xs. (cpu_after lists.base c xs).place) (sym front_is)
        ∙ cpu_place_is k e there in
        let at : cpu_key_at lists c s.place ≡ cpu_key_in_use e s.key =
        ap (cpu_key_at lists c) place ∙ cpu_key_is k e there
        ∙ ap (λ xs. cpu_key_in_use e (cpu_after lists.base c xs).key) front_is in
        let P : CpuState → Type 0 = λ t. CpuOk t in
        subst P (sym (fold-append (cpu_step lists.base c) cpu_start front (e ∷ []))) (cpu_ok_step s e may at ok)

    cpu_ok : (k : ℕ) → CpuOk (cpu_at k)
    cpu_ok k = every_front (λ xs. CpuOk (cpu_after lists.base c xs)) es [] es refl
        (record { keyed = λ some. absurd (omega arith); fills = λ w f is. cc }) front_ok_more k

    value_in_use : (k : ℕ) (e : CpuEntry) → slice_get es k ≡ Some e → (key : KeyName) →
        cpu_key_in_use e (cpu_at k).key ≡ Some key →
        value_of lists key ≡ cpu_value_in_use lists e (cpu_value_after lists (take k es))
    value_in_use k e is key named = cpu_key_named lists c k key (cpu_key_is k e is ∙ named) ∙ cpu_used_is k e is

    read_visit : (k look : ℕ) (refill : Option ℕ) (taken : Taken) → slice_get es k ≡ Some (Read look refill taken) →
        is_rekeyed lists c k ≡ false →
        (cpu_visit lists c k (Read look refill taken)).serves
        ≡ served_in lists (cpu_place_uses lists c k (Read look refill taken))
    read_visit k look refill taken is none =
        let e : CpuEntry = Read look refill taken in
        let s : CpuState = cpu_at k in
        let key : HasName (call_or refill s.key) = read_keyed s look refill (cpu_ok k) (may_come k e is).fits in
        let used : List ℕ = cpu_value_in_use lists e (cpu_value_after lists (take k es)) in
        let at : s.place ≡ k = cpu_place_is k e is in
        let next : value_of lists (Call (CpuLane c) s.place) ≡ keystream used 32 32 =
        ap (λ j. value_of lists (Call (CpuLane c) j)) at ∙ ap (λ v. keystream v 32 32) (cpu_used_is k e is) in
        read_named lists key.0 (Call (CpuLane c) s.place) used (value_in_use k e is key.0 key.1) next
        (is_rekeyed lists c s.place) taken (ap (is_rekeyed lists c) at ∙ none)
        ∙ ap (λ o. served_in lists (named_uses o (λ key. read_uses (is_rekeyed lists c s.place) key
        (Call (CpuLane c) s.place) taken))) (sym key.1)

    fill_visit : (k look width : ℕ) (refill : Option ℕ) → slice_get es k ≡ Some (Int look refill width true) →
        (cpu_visit lists c k (Int look refill width true)).serves
        ≡ served_in lists (cpu_place_uses lists c k (Int look refill width true))
    fill_visit k look width refill is =
        let e : CpuEntry = Int look refill width true in
        let s : CpuState = cpu_at k in
        let key : HasName (call_or refill s.key) = int_keyed s look width refill (cpu_ok k) (may_come k e is).fits in
        let used : List ℕ = cpu_value_in_use lists e (cpu_value_after lists (take k es)) in
        let first : 32 + width * 0 ≡ 32 = omega arith in
        ap (λ v. keystream v (32 + width * 0) width) (sym (value_in_use k e is key.0 key.1))
        ∙ ap (λ f. keystream (value_of lists key.0) f width) first
        ∙ sym (append-nil (keystream (value_of lists key.0) 32 width))
        ∙ ap (λ o. served_in lists (named_uses o (λ key. use_of kept key 0 32 ∷ use_of served key 32 width ∷ [])))
        (sym key.1)

    batch_visit : (width : ℕ) (o : Option Fill) → ((f : Fill) → o ≡ Some f → FillOk f) →
        int_of lists c width o ≡ served_in lists (batch_uses width o)
    batch_visit width None ok = refl
    batch_visit width (Some f) ok =
        let good : FillOk f = ok f refl in
        let key : KeyName = good.keyed.0 in
        ap (λ v. keystream v (32 + width * f.count) width)
        (sym (cpu_key_named lists c f.place key (good.used_key ∙ good.keyed.1)))
        ∙ sym (append-nil (keystream (value_of lists key) (32 + width * f.count) width))
        ∙ ap (λ o. served_in lists (named_use served o (32 + width * f.count) width)) (sym good.keyed.1)

    -- each visit of a CPU serves the bytes of the named spans that its entry serves, unless a vgetrandom state takes
    -- the visit's read as a key
    pub cpu_visit_named : (k : ℕ) (e : CpuEntry) → slice_get es k ≡ Some e → is_rekeyed lists c k ≡ false →
        (cpu_visit lists c k e).serves ≡ served_in lists (cpu_place_uses lists c k e)
    cpu_visit_named k (Read look refill taken) is none = read_visit k look refill taken is none
    cpu_visit_named k (Int look refill width true) is none = fill_visit k look width refill is
    cpu_visit_named k (Int look refill width false) is none =
        batch_visit width ((cpu_at k).fills width) ((cpu_ok k).fills width)
    cpu_visit_named k (Irq v1 v2 now) is none = refl
    cpu_visit_named k (Dump now) is none = refl
    cpu_visit_named k Prepare is none = refl
    cpu_visit_named k Online is none = refl

pub lawful_serves_named : LawfulServesNamed
lawful_serves_named lists lanes = record {
  base = base_visit_named lists lanes.forward.base;
  cpus = λ c k e is none. cpu_visit_named lists c (lanes.forward.cpus c) k e is none;
}
