-- The simple commands of `clap` that read the words after the first, and what they make of them.
use Rattle.std.specs.Prelude.{◌≡◌, ℕ, List, [], ◌∷◌, Bool, true, false, Option, Some, codes, fold, is_some, unwrap_or}
use Rattle.clap.specs.Words.{App, IsParsedFrom, Kinds, Rule, fault_of, first_of, first_value, found_of, matches_of, new_app, new_rule, with_rule}
use Rattle.clap.specs.Simple.{on_top}
use Rattle.clap.specs.declared.builder.ArgAction.TheVariants.{Set}
use Rattle.clap.specs.declared.builder.command.Command.{Command}
use Rattle.clap.specs.declared.parser.matches.ArgMatches.{ArgMatches}

-- a required positional argument
abbrev pub positional : List ℕ → Rule
positional id = record (new_rule id) { required = true; action = Some Set }

-- an option with a value
abbrev pub option : List ℕ → Rule
option id = record (new_rule id) { long = Some id; action = Some Set }

-- a command without help and version options, which reads all words as its arguments
abbrev pub bare_command : List ℕ → App
bare_command name = on_top
    (λ s. record s { no_binary_name = true; disable_help_flag = true; disable_version_flag = true })
    (new_app name)

-- the command of these arguments
abbrev pub command_of : List ℕ → List Rule → App
command_of name rules = fold with_rule (bare_command name) rules

-- `RULE FILE [--seats N]`
abbrev pub tally_app : App
tally_app = command_of (codes "tally")
    (positional (codes "rule") ∷ positional (codes "file") ∷ option (codes "seats") ∷ [])

-- `RULE FILE [--seats N] [--budget N]`
abbrev pub margin_app : App
margin_app = command_of (codes "margin")
    (positional (codes "rule") ∷ positional (codes "file") ∷ option (codes "seats") ∷ option (codes "budget") ∷ [])

-- `FILE CERT`
abbrev pub check_app : App
check_app = command_of (codes "check") (positional (codes "file") ∷ positional (codes "cert") ∷ [])

-- `FILE`
abbrev pub show_app : App
show_app = command_of (codes "show") (positional (codes "file") ∷ [])

-- `SEED`
abbrev pub drill_app : App
drill_app = command_of (codes "drill") (positional (codes "seed") ∷ [])

-- no kind of error
abbrev pub is_none : Kinds → Bool
is_none [] = true
is_none (kind ∷ kinds) = false

-- the command takes the words: `clap` has no kind of error for them
unfoldable pub is_taken : App → List (List ℕ) → Bool
is_taken app words = is_none (fault_of app words)

-- the value that the words give an argument, if they do
unfoldable pub value_in : App → List (List ℕ) → List ℕ → Option (List ℕ)
value_in app words id = first_of id (matches_of app words)

-- the value that the words give a required argument
abbrev pub text_in : App → List (List ℕ) → List ℕ → List ℕ
text_in app words id = unwrap_or (value_in app words id) []

-- a parse found the values that the words give
abbrev pub HasValuesOf : App → List (List ℕ) → ArgMatches → Type 0
HasValuesOf app words m = (id : List ℕ) → first_value (found_of m) id ≡ value_in app words id

-- whatever words a parse by the command took, they gave this argument a value
abbrev pub AlwaysGives : Command → List ℕ → Type 0
AlwaysGives command id = (m : ArgMatches) → IsParsedFrom command m → is_some (first_value (found_of m) id) ≡ true
