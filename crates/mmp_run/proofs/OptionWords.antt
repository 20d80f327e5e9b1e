-- The words of a command line, from the words as they are kept.
use Rattle.std.proofs.Common.{◌≡◌, ◌<◌, ℕ, ◌+◌, Bool, true, false, cond, List, [], ◌∷◌, length, take, drop, get_or, map, Option, Some, None}
use Rattle.std.proofs.Common.{refl, sym, ◌∙◌, ap, arith, add-one, drop-cons}
use Rattle.std.specs.List.{prefix_len}
use Rattle.std.specs.Option.{option_and_then}
use Rattle.std.proofs.lemmas.List.{take-map, drop-map}
use Rattle.call_answers.specs.CommandLine.{Command, command_of, of_word, is_option, in_place, leading, behind, unify_of, unify_options}
use Rattle.mm_model.specs.Names.{Name, contains}
use Rattle.written_model.specs.declared.options.Options.{Options}

-- the options in front, from a place on
count_at : {K : Type 0} (f : K → Name) (words : List K) (i : ℕ) (d : K) → i < length words
    → prefix_len is_option (map f (drop i words)) ≡ cond (is_option (f (get_or words i d))) (1 + prefix_len is_option (map f (drop (i + 1) words))) 0
count_at f words i d h = rw (add-one, drop-cons words i d) refl

pub count_past : {K : Type 0} (f : K → Name) (words : List K) (i n : ℕ) (d : K) → i < length words → n ≡ i + prefix_len is_option (map f (drop i words)) → is_option (f (get_or words i d)) ≡ true
    → n ≡ (i + 1) + prefix_len is_option (map f (drop (i + 1) words))
count_past f words i n d h e is = let at = count_at f words i d h in
    let more : prefix_len is_option (map f (drop i words)) ≡ 1 + prefix_len is_option (map f (drop (i + 1) words)) = rw is at at in
    omega (arith, e, more)

pub count_here : {K : Type 0} (f : K → Name) (words : List K) (i n : ℕ) (d : K) → i < length words → n ≡ i + prefix_len is_option (map f (drop i words)) → is_option (f (get_or words i d)) ≡ false
    → i ≡ n
count_here f words i n d h e is = let at = count_at f words i d h in let more : prefix_len is_option (map f (drop i words)) ≡ 0 = rw is at at in omega (arith, e, more)

front : {K : Type 0} (f : K → Name) (words : List K) (n : ℕ) → n ≡ prefix_len is_option (map f words) → map f (take n words) ≡ leading (map f words)
front f words n e = sym (take-map f n words) ∙ ap (λ (m : ℕ). take m (map f words)) e

back : {K : Type 0} (f : K → Name) (words : List K) (n : ℕ) → n ≡ prefix_len is_option (map f words) → map f (drop n words) ≡ behind (map f words)
back f words n e = sym (drop-map f n words) ∙ ap (λ (m : ℕ). drop m (map f words)) e

-- the command by the options in front and the names behind
abbrev command_in : (List Name → Option Options) → (List Name → List Name → Options → Option Command) → List Name → List Name → Option Command
command_in of command options names = option_and_then (command options names) (of options)

-- two lists of words that are the options and the names
parts : {K : Type 0} (of : List Name → Option Options) (command : List Name → List Name → Options → Option Command) (f : K → Name) (words : List K) (n : ℕ)
    → n ≡ prefix_len is_option (map f words)
    → command_in of command (map f (take n words)) (map f (drop n words)) ≡ command_in of command (leading (map f words)) (behind (map f words))
parts of command f words n e =
    ap (λ (os : List Name). command_in of command os (map f (drop n words))) (front f words n e)
    ∙ ap (λ (names : List Name). command_in of command (leading (map f words)) names) (back f words n e)

pub not_chosen : {K : Type 0} (of : List Name → Option Options) (command : List Name → List Name → Options → Option Command) (f : K → Name) (words : List K) (n : ℕ)
    → n ≡ prefix_len is_option (map f words) → None ≡ of (map f (take n words)) → None ≡ command_in of command (leading (map f words)) (behind (map f words))
not_chosen of command f words n e none =
    ap (option_and_then (command (map f (take n words)) (map f (drop n words)))) none ∙ parts of command f words n e

pub chosen : {K : Type 0} (of : List Name → Option Options) (command : List Name → List Name → Options → Option Command) (f : K → Name) (words : List K) (n : ℕ)
    (x : Options) (found : Option Command) → n ≡ prefix_len is_option (map f words) → Some x ≡ of (map f (take n words))
    → found ≡ command (map f (take n words)) (map f (drop n words)) x → found ≡ command_in of command (leading (map f words)) (behind (map f words))
chosen of command f words n x found e some is =
    is ∙ ap (option_and_then (command (map f (take n words)) (map f (drop n words)))) some ∙ parts of command f words n e

-- `unify` looks for one of its options by itself
abbrev pub unify_with : List Name → List Name → Options → Option Command
unify_with options names x = unify_of (contains options in_place) names x

pub not_unify : {K : Type 0} (f : K → Name) (words : List K) (n : ℕ) → n ≡ prefix_len is_option (map f words) → None ≡ unify_options (map f (take n words))
    → None ≡ command_in unify_options unify_with (leading (map f words)) (behind (map f words))
not_unify f words n e none = not_chosen unify_options unify_with f words n e none

pub is_unify : {K : Type 0} (f : K → Name) (words : List K) (n : ℕ) (x : Options) (there : Bool) (found : Option Command) → n ≡ prefix_len is_option (map f words)
    → Some x ≡ unify_options (map f (take n words)) → there ≡ contains (map f (take n words)) in_place → found ≡ unify_of there (map f (drop n words)) x
    → found ≡ command_in unify_options unify_with (leading (map f words)) (behind (map f words))
is_unify f words n x there found e some is_there is =
    chosen unify_options unify_with f words n x found e some (is ∙ ap (λ (b : Bool). unify_of b (map f (drop n words)) x) is_there)

-- the first word, and those behind it
pub first_word : {K : Type 0} (f : K → Name) (words : List K) (d : K) → 0 < length words → of_word (f (get_or words 0 d)) (map f (drop 1 words)) ≡ command_of (map f words)
first_word f [] d h = absurd (omega arith)
first_word f (word ∷ words) d h = refl
