-- What a chain of arguments says of every parse, and what an error of a parse says of the words.
use Rattle.std.proofs.Common.{ℕ, List, [], ◌∷◌, ◌⊎◌, ◌≡◌, ◌<◌, ◌∙◌, refl, sym, ap, Bool, true, false, All, length, suc, zero, arith, map, inl, inr, codes, slice_index_or}
use Rattle.std.specs.Prelude.{⊤, Option, ◌&&◌, ◌||◌, ◌≢◌, not}
use Rattle.std.specs.List.{list_all, list_any}
use Rattle.std.specs.Str.{bytes_eq}
use Rattle.std.proofs.lemmas.Slice.Eq.{bytes_eq-Decides}
use Rattle.clap.specs.Words.{AddsArg, AddsInTurn, App, IsAmong, IsPlainArg, Kinds, args_of, fault_of, first_value, found_of, groups_of, matches_of, rows_of}
use Rattle.clap.specs.Built.{FitsChain, HasDistinctIds, TakesValue}
use Rattle.clap.specs.declared.builder.arg.Arg.{Arg}
use Rattle.clap.specs.declared.builder.command.Command.{Command}
use Rattle.clap.specs.declared.builder.command.Command.TheViews.{out-Command}
use Rattle.clap.specs.declared.error.kind.ErrorKind.{ErrorKind}
use Rattle.clap.specs.declared.error.kind.ErrorKind.TheVariants.{OutOfMemory}
use Rattle.clap.specs.declared.parser.matches.ArgMatches.{ArgMatches}
use Rattle.clap.proofs.CallerLemmas.{required_in_chain}
use Rattle.clap.proofs.WalkLemmas.{first_value-rows}
use Rattle.mov_words.specs.Commands.{AlwaysGives, HasValuesOf, is_none, is_taken, value_in}

pub both : (x y : Bool) → (x && y) ≡ true → (x ≡ true) × (y ≡ true)
both true y h = (refl, h)
both false y h = cc h

not_both : (b : Bool) → not b ≡ true → b ≡ true → ⊥
not_both true n y = cc n
not_both false n y = cc y

-- ---- chains of arguments

-- an id that isn't empty, nor one of the two that building may add
abbrev pub is_own : List ℕ → Bool
is_own id = not (bytes_eq id []) && (not (bytes_eq id (codes "help")) && not (bytes_eq id (codes "version")))

-- no id stands twice
abbrev pub are_distinct : List (List ℕ) → Bool
are_distinct [] = true
are_distinct (x ∷ xs) = not (list_any (bytes_eq x) xs) && are_distinct xs

-- plain arguments with these ids
abbrev pub AreNamed : List Arg → List (List ℕ) → Type 0
AreNamed [] [] = ⊤
AreNamed [] (id ∷ ids) = ⊥
AreNamed (a ∷ args) [] = ⊥
AreNamed (a ∷ args) (id ∷ ids) = (IsPlainArg a × (a.global ≡ false)) × (a.id.now ≡ id) × AreNamed args ids

fits : (a : Arg) (id : List ℕ) → IsPlainArg a × (a.global ≡ false) → a.id.now ≡ id → is_own id ≡ true → FitsChain a
fits a id plain is own = (
  plain.0,
  plain.1,
  (λ e. cc (rw (sym is ∙ e) at own)),
  (λ auto. elim auto [ inl e ↦ cc (rw (sym is ∙ e) at own) | inr e ↦ cc (rw (sym is ∙ e) at own) ]),
)

all_one : (P : Arg → Type 0) (x : Arg) (xs : List Arg) → P x → All P xs → All P (x ∷ xs)
all_one P x xs p all zero d within = p
all_one P x xs p all (suc k) d within = all k d (omega (arith, within))

all_none : (P : Arg → Type 0) → All P []
all_none P k d within = absurd (omega (arith, within))

all_fit : (args : List Arg) (ids : List (List ℕ)) → AreNamed args ids → list_all is_own ids ≡ true → All FitsChain args
all_fit [] [] named own = all_none FitsChain
all_fit [] (id ∷ ids) named own = absurd named
all_fit (a ∷ args) [] named own = absurd named
all_fit (a ∷ args) (id ∷ ids) named own =
    let h = both _ _ own in
    all_one FitsChain a args (fits a id named.0 named.1 h.0) (all_fit args ids named.2 h.1)

ids_of : (args : List Arg) (ids : List (List ℕ)) → AreNamed args ids → map (λ a. a.id.now) args ≡ ids
ids_of [] [] named = refl
ids_of [] (id ∷ ids) named = absurd named
ids_of (a ∷ args) [] named = absurd named
ids_of (a ∷ args) (id ∷ ids) named = rw (named.1, ids_of args ids named.2) refl

any_here : (x : List ℕ) (xs : List Arg) (k : ℕ) (d : Arg) → k < length xs → bytes_eq x (slice_index_or xs k d).id.now ≡ true
    → list_any (bytes_eq x) (map (λ a. a.id.now) xs) ≡ true
any_here x [] k d within same = absurd (omega (arith, within))
any_here x (a ∷ xs) zero d within same = rw same refl
any_here x (a ∷ xs) (suc k) d within same = rw (any_here x xs k d (omega (arith, within)) same) (or_true (bytes_eq x a.id.now))
  where
    or_true : (b : Bool) → (b || true) ≡ true
    or_true true = refl
    or_true false = refl

turned : (x y : List ℕ) → bytes_eq x y ≡ true → bytes_eq y x ≡ true
turned x y h = let same = (bytes_eq-Decides x y).0 h in rw same ((bytes_eq-Decides y y).1 refl)

distinct_ids : (xs : List Arg) → are_distinct (map (λ a. a.id.now) xs) ≡ true → HasDistinctIds xs
distinct_ids [] h j k d e lj lk same = absurd (omega (arith, lj))
distinct_ids (a ∷ xs) h zero zero d e lj lk same = refl
distinct_ids (a ∷ xs) h zero (suc k) d e lj lk same =
    absurd (not_both _ (both _ _ h).0 (any_here a.id.now xs k d (omega (arith, lk)) same))
distinct_ids (a ∷ xs) h (suc j) zero d e lj lk same =
    absurd (not_both _ (both _ _ h).0 (any_here a.id.now xs j e (omega (arith, lj)) (turned (slice_index_or xs j e).id.now a.id.now same)))
distinct_ids (a ∷ xs) h (suc j) (suc k) d e lj lk same =
    ap suc (distinct_ids xs (both _ _ h).1 j k d e (omega (arith, lj)) (omega (arith, lk)) same)

-- a command without arguments, groups and globals
abbrev pub IsStart : Command → Type 0
IsStart start =
    ((args_of start ≡ []) × (groups_of start ≡ [])) × ((out-Command start).has_globals ≡ false) × ((out-Command start).subcommand_negates_reqs ≡ false)

-- each parse gives a value to the required argument at place k of the chain
pub always : (start cmd : Command) (args : List Arg) (ids : List (List ℕ)) (k : ℕ) (d : Arg) → IsStart start → AddsInTurn AddsArg start args cmd → AreNamed args ids
    → list_all is_own ids ≡ true → are_distinct ids ≡ true → k < length args → TakesValue (slice_index_or args k d)
    → (id : List ℕ) → (slice_index_or args k d).id.now ≡ id → AlwaysGives cmd id
always start cmd args ids k d bare chain named own distinct within value id is =
    let apart : HasDistinctIds args = distinct_ids args (ap are_distinct (ids_of args ids named) ∙ distinct) in
    λ m p. rw (← is) (required_in_chain start cmd args k d m chain bare.0.0 bare.0.1 bare.1 bare.2 (all_fit args ids named own) apart within value p)

-- ---- values

pub values : (app : App) (words : List (List ℕ)) (m : ArgMatches) → rows_of (found_of m) ≡ matches_of app words → HasValuesOf app words m
unfolding value_in
values app words m rows id = rw (← rows) (first_value-rows (found_of m) id)

-- a value that a parse found is the one that the words give
pub value_is : (app other : App) (words : List (List ℕ)) (m : ArgMatches) (id : List ℕ) (value : Option (List ℕ)) → app ≡ other → HasValuesOf app words m
    → first_value (found_of m) id ≡ value → value_in other words id ≡ value
value_is app other words m id value same has found = ap (λ a. value_in a words id) (sym same) ∙ sym (has id) ∙ found

-- ---- kinds of error

among_some : (kind : ErrorKind) (kinds : Kinds) → IsAmong kind kinds → is_none kinds ≡ false
among_some kind [] h = absurd h
among_some kind (k ∷ ks) h = refl

pub taken : (app : App) (words : List (List ℕ)) → fault_of app words ≡ [] → is_taken app words ≡ true
unfolding is_taken
taken app words h = ap is_none h

-- an error of another kind than want of memory
pub not_taken : (app : App) (words : List (List ℕ)) (kind told : ErrorKind) → kind ≡ told → kind ≢ OutOfMemory → (told ≡ OutOfMemory) ⊎ IsAmong told (fault_of app words) → is_taken app words ≡ false
unfolding is_taken
not_taken app words kind told same other (inl memory) = absurd (other (same ∙ memory))
not_taken app words kind told same other (inr among) = among_some told (fault_of app words) among
