-- Productions of small databases, computed.
use Rattle.std.specs.Prelude.{◌≡◌, ℕ, true, false, List, [], ◌∷◌, None, map, codes, refl}
use Rattle.mm_base.specs.declared.symbols.Typecode.{Typecode}
use Rattle.mm_model.specs.declared.rows.Item.{Item}
use Rattle.mm_model.specs.declared.rows.Item.TheVariants.{Const, Slot}
use Rattle.mm_model.specs.declared.rows.Production.{Production}
use Rattle.mm_model.specs.Names.{sym, label, typecode}
use Rattle.mm_model.specs.Statements.{Statement, statements, database_fault}
use Rattle.mm_model.specs.Chains.{leads}
use Rattle.mm_model.specs.Productions.{rows, kept_rows}
use Rattle.mm_model.specs.FramesExamples.{P}

abbrev pub code : ℕ → Typecode
code n = typecode (sym n)

abbrev pub constant : ℕ → Item
constant n = Const (sym n)

abbrev pub production : ℕ → ℕ → ℕ → List Item → List ℕ → Production
production l at gives items slots =
    record { label = label l; at = at; gives = code gives; items = items; slots = map code slots }

-- ---- negation and implication

pub P_rows : rows (codes "|-") (statements P) ≡
    production 3 5 4 (constant 3 ∷ Slot 0 ∷ []) (4 ∷ [])
    ∷ production 4 6 4 (constant 0 ∷ Slot 0 ∷ constant 2 ∷ Slot 1 ∷ constant 1 ∷ []) (4 ∷ 4 ∷ [])
    ∷ []
P_rows = refl

-- ---- chains from a to b, from b to c, from c to a, from a to a and from a to c, and axioms that are no productions:
-- a provable one, one with a variable twice, one without a symbol behind its typecode, one with a `$d`, one with a `$e`, and a `$p`

abbrev pub chained : List ℕ
chained =
    codes
    "$c |- a b c t $. $v x y z $. fa $f a x $. fb $f b y $. fc $f c z $. ab $a b x $. bc $a c y $. ca $a a z $. aa $a a x $. ac $a c x $. ta $a a t x $. tw $a b y t x $. pr $a |- x $. rr $a a x t x $. co $a a $. ${ $d x y $. dd $a a x y $. $} ${ e $e |- x $. ee $a a t x $. $} pp $p a t $= $."

abbrev C : List Statement
C = statements chained

pub C_clean : database_fault chained ≡ None
C_clean = refl

abbrev pub ab : Production
ab = production 3 5 2 (Slot 0 ∷ []) (1 ∷ [])

abbrev pub bc : Production
bc = production 4 6 3 (Slot 0 ∷ []) (2 ∷ [])

abbrev pub ca : Production
ca = production 5 7 1 (Slot 0 ∷ []) (3 ∷ [])

abbrev pub aa : Production
aa = production 6 8 1 (Slot 0 ∷ []) (1 ∷ [])

abbrev pub ac : Production
ac = production 7 9 3 (Slot 0 ∷ []) (1 ∷ [])

abbrev pub ta : Production
ta = production 8 10 1 (constant 4 ∷ Slot 0 ∷ []) (1 ∷ [])

-- the slots stand in the order of the `$f`, not of the text
abbrev pub tw : Production
tw = production 9 11 2 (Slot 1 ∷ constant 4 ∷ Slot 0 ∷ []) (1 ∷ 2 ∷ [])

pub C_rows : rows (codes "|-") C ≡ ab ∷ bc ∷ ca ∷ aa ∷ ac ∷ ta ∷ tw ∷ []
C_rows = refl

-- the chain from c to a would close a cycle, and so would the one from a to a
abbrev pub kept_chained : List Production
kept_chained = ab ∷ bc ∷ ac ∷ ta ∷ tw ∷ []

pub C_kept : kept_rows (codes "|-") C ≡ kept_chained
C_kept = refl

pub C_leads : leads (bc ∷ ab ∷ []) (code 1) (code 3) ≡ true
C_leads = refl

pub C_leads_back : leads (bc ∷ ab ∷ []) (code 3) (code 1) ≡ false
C_leads_back = refl

-- ---- where the provable typecode is another one, or is not declared

pub C_other : map (λ (r : Production). r.label.0) (rows (codes "a") C) ≡ 3 ∷ 4 ∷ 7 ∷ 9 ∷ 10 ∷ []
C_other = refl

pub C_none : map (λ (r : Production). r.label.0) (rows (codes "wff") C) ≡ 3 ∷ 4 ∷ 5 ∷ 6 ∷ 7 ∷ 8 ∷ 9 ∷ 10 ∷ []
C_none = refl

-- ---- two productions for one text

abbrev pub equal : List ℕ
equal = codes "$c wff class setvar = |- $. $v x y A B $. vx $f setvar x $. vy $f setvar y $. cA $f class A $. cB $f class B $. cv $a class x $. wceq $a wff A = B $. weqx $a wff x = y $."

abbrev pub cv : Production
cv = production 4 6 1 (Slot 0 ∷ []) (2 ∷ [])

abbrev pub wceq : Production
wceq = production 5 7 0 (Slot 0 ∷ constant 3 ∷ Slot 1 ∷ []) (1 ∷ 1 ∷ [])

abbrev pub weqx : Production
weqx = production 6 8 0 (Slot 0 ∷ constant 3 ∷ Slot 1 ∷ []) (2 ∷ 2 ∷ [])

abbrev pub kept_equal : List Production
kept_equal = cv ∷ wceq ∷ weqx ∷ []

pub equal_clean : database_fault equal ≡ None
equal_clean = refl

pub equal_rows : kept_rows (codes "|-") (statements equal) ≡ kept_equal
equal_rows = refl
