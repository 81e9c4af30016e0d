-- The command that was matched, by the clauses of its parts.
use Rattle.std.proofs.Common.{◌≡◌, List, Option, Some, None, refl, ap, ap₂, sym, option_map, Result, Ok, Err, IfErr, IsErrAnd}
use Rattle.std.proofs.lemmas.Option.{none-some}
use Rattle.clap.specs.Words.{Row, Text, subcommand_name_of, subcommand_rows_of}
use Rattle.clap.specs.declared.parser.matches.ArgMatches.{ArgMatches}
use Rattle.clap.specs.declared.parser.matches.ArgMatches.TheViews.{out-ArgMatches}

abbrev or_else : {X : Type 0} → X → Option X → X
or_else x None = x
or_else x (Some y) = y

pub some_is : {X : Type 0} (x y : X) → Some x ≡ Some y → x ≡ y
some_is x y e = ap (or_else x) e

-- two parts of an optional pair
pub both_parts : {A : Type 0} (name : A → Text) (rows : A → List Row) (found : Option A) (sub : Option (Text × List Row))
    → option_map name found ≡ option_map (λ p. p.0) sub → option_map rows found ≡ option_map (λ p. p.1) sub → option_map (λ a. (name a, rows a)) found ≡ sub
both_parts name rows None None e f = refl
both_parts name rows None (Some s) e f = absurd (none-some s.0 e)
both_parts name rows (Some a) None e f = absurd (none-some (name a) (sym e))
both_parts name rows (Some a) (Some s) e f = ap₂ (λ n r. Some (n, r)) (some_is (name a) s.0 e) (some_is (rows a) s.1 f)

map_map : {A B C : Type 0} (f : B → C) (g : A → B) (o : Option A) → option_map f (option_map g o) ≡ option_map (λ a. f (g a)) o
map_map f g None = refl
map_map f g (Some a) = refl

-- the name that a parse met, by the rows that it entered
pub name_by_rows : (m : ArgMatches) → subcommand_name_of m ≡ option_map (λ p. p.0) (subcommand_rows_of m)
name_by_rows m = sym (map_map (λ (p : Text × List Row). p.0) _ (out-ArgMatches m).subcommand)

-- an error that `?` passed up
pub passed : {T E : Type 0} (r : Result T E) (P Q : E → Type 0) → IsErrAnd r P → ((e : E) → P e → Q e) → IfErr r Q
passed (Ok x) P Q is then_q = tt
passed (Err e) P Q is then_q = then_q e is
