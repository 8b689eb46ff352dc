-- An example of a lawful book with every kind of list, its uses, and its live keys and batches.
use Rattle.std.proofs.Common.{◌≡◌, ℕ, zero, suc, true, false, [], ◌∷◌, inl, inr, refl, sym, ap, ◌∙◌, arith, Some, None, replicate}
use Rattle.key_names.specs.declared.names.LaneId.TheVariants.{Base as BaseLane, Cpu as CpuLane}
use Rattle.key_names.specs.declared.names.KeyName.TheVariants.{Root, Base, Cpu, Call, Vdso}
use Rattle.key_names.specs.declared.entries.Taken.TheVariants.{User}
use Rattle.key_names.specs.declared.entries.PoolEntry.TheVariants.{Mix, Extract}
use Rattle.key_names.specs.declared.entries.BaseEntry.TheVariants.{Reseed, Refill as BaseRefill}
use Rattle.key_names.specs.declared.entries.CpuEntry.TheVariants.{Read, Int}
use Rattle.key_names.specs.declared.entries.VEntry.TheVariants.{Rekey, Blocks, Refill, Serve}
use Rattle.key_names.specs.Lanes.PoolList.{extraction_at}
use Rattle.key_names.specs.Lanes.BaseList.{refill_at}
use Rattle.std.specs.Option.{option_map_or}
use Rattle.key_names.specs.Lanes.LawfulList.{LawfulFrom}
use Rattle.key_names.specs.Lanes.CpuList.{LawfulCpu, CpuMayCome, cpu_step, cpu_start, base_refill_at}
use Rattle.key_names.proofs.Lists.Growing.{lawful_append}
use Rattle.key_names.specs.Lanes.StateList.{LawfulStateList}
use Rattle.key_names.specs.Lanes.Book.{Lists, cpu_list, state_list, LawfulBook, StatePlace, rekey_in, ExtractionAnswered, RefillAnswered}
use Rattle.key_names.specs.Keys.Uses.{kept, served, use_of, uses}
use Rattle.key_names.specs.Keys.LiveMaterial.{base_key, cpu_key, state_key, cpu_batch, state_batch, live_key, live_rest, named_span}

-- a book with one reseed. A CPU fills a batch, and a read from that CPU gives a vgetrandom state its key. The state
-- serves 140 bytes
abbrev book : Lists
book = record {
  pool = Mix [] 256 ∷ Extract (replicate 32 0) 0 ∷ [];
  base = Reseed 1 0 ∷ BaseRefill 0 0 ∷ [];
  cpus = (Int 1 (Some 1) 4 true ∷ Read 1 None (User 32) ∷ Int 1 None 4 false ∷ []) ∷ [];
  callers = ((Rekey 0 1 ∷ Blocks 0 1 ∷ Refill 1 ∷ Serve 0 40 ∷ Serve 40 36 ∷ []) ∷ []) ∷ [];
}

pub uses_of_book : uses book ≡ (
    use_of kept (Root 1) 0 32 ∷ use_of kept (Root 1) 32 32
    ∷ use_of kept (Call BaseLane 1) 0 32 ∷ use_of served (Call BaseLane 1) 32 4
    ∷ use_of kept (Cpu 0 0) 0 32 ∷ use_of kept (Cpu 0 0) 32 32
    ∷ use_of served (Call BaseLane 1) 36 4
    ∷ use_of served (Call (CpuLane 0) 1) 0 64 ∷ use_of kept (Call (CpuLane 0) 1) 160 32
    ∷ use_of served (Call (CpuLane 0) 1) 64 40 ∷ use_of served (Call (CpuLane 0) 1) 104 36 ∷ []
    )
uses_of_book = refl

pub live_base_key : live_key book base_key ≡ Some (Base 1)
live_base_key = refl

pub live_cpu_key : live_key book (cpu_key 0) ≡ Some (Cpu 0 1)
live_cpu_key = refl

pub live_state_key : live_key book (state_key 0 0) ≡ Some (Vdso 0 0 0)
live_state_key = refl

pub live_cpu_batch : live_rest book (cpu_batch 0 4) ≡ named_span (Some (Call BaseLane 1)) 40 88
live_cpu_batch = refl

pub live_state_batch : live_rest book (state_batch 0 0) ≡ named_span (Some (Call (CpuLane 0) 1)) 140 20
live_state_batch = refl

filling_int : LawfulFrom (CpuMayCome book.base 0) (cpu_step book.base 0) cpu_start (Int 1 (Some 1) 4 true ∷ [])
filling_int = (
  record {
    fits = record {
      looks = record { known = omega arith; not_back = omega arith };
      fills = refl;
      names = (λ p. cc, λ p. elim p [ inl e ↦ cc | inr e ↦ (let q : 1 ≡ 0 = e in cc) ]);
    };
    refill = (refl, omega arith);
  },
  tt,
)

cpus_lawful : (c : ℕ) → LawfulCpu book.base c (cpu_list book c)
cpus_lawful zero =
    lawful_append (CpuMayCome book.base 0) (cpu_step book.base 0) cpu_start (Int 1 (Some 1) 4 true ∷ [])
    (Read 1 None (User 32) ∷ Int 1 None 4 false ∷ []) filling_int (
      record {
        fits = record {
          looks = record { known = omega arith; not_back = omega arith };
          names =
              (λ p. refl, λ p. refl);
        };
        refill = tt;
      },
      (
        record {
          fits = record {
            looks = record { known = omega arith; not_back = omega arith };
            fills = refl;
            names =
                (λ p. inl refl, λ p. refl);
          };
          refill = tt;
        },
        tt,
      ),
    )
cpus_lawful (suc c) = tt

states_lawful : (caller state : ℕ) → LawfulStateList (cpu_list book) caller state (state_list book caller state)
states_lawful zero zero = record {
  comes = (
    (refl, refl),
    ((tt, tt), ((refl, tt), (((refl, refl, omega arith), tt), (((refl, refl, omega arith), tt), tt)))),
  );
  ends = refl;
}
states_lawful zero (suc state) = record { comes = tt; ends = refl }
states_lawful (suc caller) state = record { comes = tt; ends = refl }

-- only the first entry of the only vgetrandom state's list takes a read as a key
only_taker : (caller state place : ℕ) (read : ℕ × ℕ) →
    rekey_in book (record { caller = caller; state = state; place = place }) ≡ Some read →
    (caller ≡ 0) × (state ≡ 0) × (place ≡ 0)
only_taker zero zero zero read is = (refl, refl, refl)
only_taker zero zero (suc zero) read is = cc
only_taker zero zero (suc (suc zero)) read is = cc
only_taker zero zero (suc (suc (suc zero))) read is = cc
only_taker zero zero (suc (suc (suc (suc zero)))) read is = cc
only_taker zero zero (suc (suc (suc (suc (suc n))))) read is = cc
only_taker zero (suc state) place read is = cc
only_taker (suc caller) state place read is = cc

one_place : (a b : StatePlace) → (a.caller ≡ 0) × (a.state ≡ 0) × (a.place ≡ 0) →
    (b.caller ≡ 0) × (b.state ≡ 0) × (b.place ≡ 0) → a ≡ b
one_place a b p q = λ i. record {
  caller = (p.0 ∙ sym q.0) i;
  state = (p.1 ∙ sym q.1) i;
  place = (p.2 ∙ sym q.2) i;
}

extractions : (p i : ℕ) → extraction_at book.pool p ≡ Some i → ExtractionAnswered book p i
extractions zero i is = cc
extractions (suc zero) zero is = refl
extractions (suc zero) (suc i) is = cc
extractions (suc (suc p)) i is = cc

refills : (b c k : ℕ) → refill_at book.base b ≡ Some (c, k) → RefillAnswered book b c k
refills zero c k is = cc
refills (suc zero) c k is =
    let p : 0 ≡ c = ap (λ o. option_map_or (λ (x : ℕ × ℕ). x.0) o 0) is in
    let q : 0 ≡ k = ap (λ o. option_map_or (λ (x : ℕ × ℕ). x.1) o 0) is in
    ap (λ d. base_refill_at (cpu_list book d) k) (sym p) ∙ ap (base_refill_at (cpu_list book 0)) (sym q)
refills (suc (suc b)) c k is = cc

-- the example's book is lawful
pub book_is_lawful : LawfulBook book
book_is_lawful = record {
  lanes = record {
    forward = record {
      base = (record { fits = tt; root = (omega arith, refl) }, (record { fits = refl; root = tt }, tt));
      cpus = cpus_lawful;
    };
    extractions = extractions;
    refills = refills;
  };
  states = record {
    states = states_lawful;
    one_taker = λ a b read p q. one_place a b (only_taker a.caller a.state a.place read p)
        (only_taker b.caller b.state b.place read q);
  };
}
