-- Small databases, computed.
use Rattle.std.specs.Prelude.{◌≡◌, ℕ, true, List, length, nat_lt, if◌then◌else◌, Some, None, codes, refl}
use Rattle.std.proofs.Common.{ap}
use Rattle.mm_base.specs.Limits.{most_database_bytes}
use Rattle.mm_model.specs.Faults.{fault, or_else}
use Rattle.mm_model.specs.Tokens.{token_fault}
use Rattle.mm_model.specs.Statements.{database_fault, statement_fault, statements}

pub redeclares : database_fault (codes "$c wff $. $v wff $.") ≡ Some (fault 13 12)
redeclares = refl

pub open_comment : database_fault (codes "$( a") ≡ Some (fault 4 2)
open_comment = refl

pub includes : database_fault (codes "$[ x $]") ≡ Some (fault 0 10)
includes = refl

pub const_inside : database_fault (codes "${ $c a $.") ≡ Some (fault 3 11)
const_inside = refl

pub out_of_scope : database_fault (codes "$c w $. ${ $v x $. $} f $f w x $.") ≡ Some (fault 29 13)
out_of_scope = refl

pub untyped : database_fault (codes "$c w $. $v x $. a $a w x $.") ≡ Some (fault 23 14)
untyped = refl

pub typed_twice : database_fault (codes "$c w $. $v x $. f $f w x $. g $f w x $.") ≡ Some (fault 35 15)
typed_twice = refl

pub variable_first : database_fault (codes "$v x $. f $f x x $.") ≡ Some (fault 13 16)
variable_first = refl

pub label_twice : database_fault (codes "$c w $. a $a w $. a $a w $.") ≡ Some (fault 18 17)
label_twice = refl

pub no_label : database_fault (codes "$c w $. $a w $.") ≡ Some (fault 8 18)
no_label = refl

pub extra : database_fault (codes "$c w $. a b $a w $.") ≡ Some (fault 8 19)
extra = refl

pub ends_early : database_fault (codes "$c w $. a") ≡ Some (fault 9 21)
ends_early = refl

pub ends_open : database_fault (codes "$c w $. ${") ≡ Some (fault 10 22)
ends_open = refl

pub unopened : database_fault (codes "$}") ≡ Some (fault 0 23)
unopened = refl

pub distinct_one : database_fault (codes "$v x $. $d x $.") ≡ Some (fault 13 24)
distinct_one = refl

pub nothing_declared : database_fault (codes "$c $.") ≡ Some (fault 3 26)
nothing_declared = refl

pub third : database_fault (codes "$c w $. $v x $. f $f w x x $.") ≡ Some (fault 25 27)
third = refl

pub unproved : database_fault (codes "$c w $. p $p w $.") ≡ Some (fault 15 28)
unproved = refl

pub stray : database_fault (codes "$c w $= $.") ≡ Some (fault 5 29)
stray = refl

pub retyped : database_fault (codes "$c w s $. $v x $. ${ f $f w x $. $} g $f s x $.") ≡ None
retyped = refl

pub label_byte : database_fault (codes "$c w $. a/ $a w $.") ≡ Some (fault 8 20)
label_byte = refl

pub distinct_repeats : database_fault (codes "$v x $. $d x x $.") ≡ Some (fault 13 25)
distinct_repeats = refl

pub const_inside_after : database_fault (codes "$c a $. ${ $c b $. $}") ≡ Some (fault 11 11)
const_inside_after = refl

pub ends_in_statement : database_fault (codes "$c ( ) -> -. wff |-") ≡ Some (fault 19 21)
ends_in_statement = refl

pub ends_in_statement_and_block : database_fault (codes "${ $v a") ≡ Some (fault 7 21)
ends_in_statement_and_block = refl

pub equals_alone : database_fault (codes "$c $= $.") ≡ Some (fault 3 26)
equals_alone = refl

pub keyword_for_symbol : database_fault (codes "l $a $a") ≡ Some (fault 5 18)
keyword_for_symbol = refl

pub axiom_in_constants : database_fault (codes "$c a $e") ≡ Some (fault 5 18)
axiom_in_constants = refl

pub axiom_in_proof : database_fault (codes "$c a $. p $p a $= q $a a $.") ≡ Some (fault 20 18)
axiom_in_proof = refl

pub close_in_statement : database_fault (codes "$c a $}") ≡ Some (fault 5 23)
close_in_statement = refl

pub taken_at_the_end : database_fault (codes "$c a $. l $a a $. l") ≡ Some (fault 18 17)
taken_at_the_end = refl

pub taken_before_extra : database_fault (codes "$c a $. l $a a $. l l") ≡ Some (fault 18 17)
taken_before_extra = refl

pub extra_before_bad : database_fault (codes "x! y") ≡ Some (fault 0 19)
extra_before_bad = refl

pub bad_at_the_end : database_fault (codes "x!") ≡ Some (fault 0 20)
bad_at_the_end = refl

pub listed_twice : database_fault (codes "$v x x $.") ≡ Some (fault 5 12)
listed_twice = refl

pub constant_was_local : database_fault (codes "${ $v x $. $} $c x $.") ≡ Some (fault 17 12)
constant_was_local = refl

pub variable_again : database_fault (codes "${ $v x $. $} $v x $.") ≡ None
variable_again = refl

pub empty_proof : database_fault (codes "$c a $. p $p a $= $.") ≡ None
empty_proof = refl

pub floating_one : database_fault (codes "$c w $. $v x $. f $f w $.") ≡ Some (fault 23 27)
floating_one = refl

-- a `$p` without a formula, with and without a proof
pub nothing_proved : database_fault (codes "p $p $= $.") ≡ Some (fault 5 26)
nothing_proved = refl

pub nothing_stated : database_fault (codes "p $p $.") ≡ Some (fault 5 26)
nothing_stated = refl

pub equals_in_distinct : database_fault (codes "$d $= $.") ≡ Some (fault 3 29)
equals_in_distinct = refl

pub close_include : database_fault (codes "$]") ≡ Some (fault 0 29)
close_include = refl

pub constant_in_distinct : database_fault (codes "$c w $. $d w x $.") ≡ Some (fault 11 13)
constant_in_distinct = refl

-- a proof may have any words, brackets among them, and comments
pub proof_words : database_fault (codes "$c w $. $v x $. f $f w x $. p $p w x $= ( f $( x $) ) A $.") ≡ None
proof_words = refl

-- a text of over 2^28 bytes is refused before all else
pub too_big : (text : List ℕ) → nat_lt most_database_bytes (length text) ≡ true → database_fault text ≡ Some (fault most_database_bytes 30)
too_big text e = ap (λ b. if b then Some (fault most_database_bytes 30) else or_else (token_fault text) (statement_fault text)) e

-- ---- the first database of the Metamath book

abbrev demo0 : List ℕ
demo0 =
    codes
    "$c 0 + = -> ( ) term wff |- $. $v t r s P Q $. tt $f term t $. tr $f term r $. ts $f term s $. wp $f wff P $. wq $f wff Q $. tze $a term 0 $. tpl $a term ( t + r ) $. weq $a wff t = r $. wim $a wff ( P -> Q ) $. a1 $a |- ( t = r -> ( t = s -> r = s ) ) $. a2 $a |- ( t + 0 ) = t $. ${ min $e |- P $. maj $e |- ( P -> Q ) $. mp $a |- Q $. $} th1 $p |- t = t $= tt tze tpl tt weq tt tt weq tt a2 tt tze tpl tt weq tt tze tpl tt weq tt tt weq wim tt a2 tt tze tpl tt tt a1 mp mp $."

pub demo0_statements : length (statements demo0) ≡ 19
demo0_statements = refl

pub demo0_clean : database_fault demo0 ≡ None
demo0_clean = refl
