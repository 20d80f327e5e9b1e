-- The databases of the examples are those of their texts, field by field as far as the examples look at them.
use Rattle.std.specs.Prelude.{◌≡◌, List, map, None, codes, refl}
use Rattle.std.specs.List.{range_with_len}
use Rattle.mm_model.specs.Names.{sym, label}
use Rattle.mm_model.specs.Statements.{Statement, statements, database_fault, labels}
use Rattle.mm_model.specs.Frames.{symbols, positions, end_of, frame_of, active_at, is_constant_at, place_after, float_codes}
use Rattle.mm_model.specs.Productions.{kept_rows}
use Rattle.solve_model.specs.Example.{P, V, E, Q, P_text, V_text, E_text, Q_text}

abbrev PS : List Statement
PS = statements P_text

abbrev VS : List Statement
VS = statements V_text

abbrev ES : List Statement
ES = statements E_text

abbrev QS : List Statement
QS = statements Q_text

pub P_symbols : symbols PS ≡ P.symbols
P_symbols = refl

pub P_labels : labels PS ≡ P.labels
P_labels = refl

pub P_positions : positions PS ≡ P.positions
P_positions = refl

pub P_end : end_of PS ≡ P.statement_count
P_end = refl

pub P_frames : map (λ n. frame_of PS (label n)) (range_with_len 0 10) ≡ map (λ n. P.frame (label n)) (range_with_len 0 10)
P_frames = refl

pub P_active_in_block : active_at PS 10 ≡ P.active_at 10
P_active_in_block = refl

pub P_active_at_end : active_at PS 14 ≡ P.active_at 14
P_active_at_end = refl

pub P_constants : map (λ n. is_constant_at PS (sym n) 14) (range_with_len 0 9) ≡ map (λ n. P.is_constant_at (sym n) 14) (range_with_len 0 9)
P_constants = refl

pub P_float_codes : float_codes PS 14 ≡ P.float_codes 14
P_float_codes = refl

pub P_places_after : map (λ n. place_after PS (label n)) (range_with_len 0 10) ≡ map (λ n. P.place_after (label n)) (range_with_len 0 10)
P_places_after = refl

pub P_rows : kept_rows (codes "|-") PS ≡ P.rows
P_rows = refl

pub V_sound : database_fault V_text ≡ None
V_sound = refl

pub V_labels : labels VS ≡ V.labels
V_labels = refl

pub V_positions : positions VS ≡ V.positions
V_positions = refl

pub V_end : end_of VS ≡ V.statement_count
V_end = refl

pub V_frames : map (λ n. frame_of VS (label n)) (range_with_len 0 13) ≡ map (λ n. V.frame (label n)) (range_with_len 0 13)
V_frames = refl

pub V_active : active_at VS 17 ≡ V.active_at 17
V_active = refl

pub V_active_at_end : active_at VS 19 ≡ V.active_at 19
V_active_at_end = refl

pub V_constants : map (λ n. is_constant_at VS (sym n) 17) (range_with_len 0 9) ≡ map (λ n. V.is_constant_at (sym n) 17) (range_with_len 0 9)
V_constants = refl

pub V_float_codes : float_codes VS 17 ≡ V.float_codes 17
V_float_codes = refl

pub V_places_after : map (λ n. place_after VS (label n)) (range_with_len 0 13) ≡ map (λ n. V.place_after (label n)) (range_with_len 0 13)
V_places_after = refl

pub E_sound : database_fault E_text ≡ None
E_sound = refl

pub E_labels : labels ES ≡ E.labels
E_labels = refl

pub E_active : active_at ES 15 ≡ E.active_at 15
E_active = refl

pub Q_sound : database_fault Q_text ≡ None
Q_sound = refl

pub Q_symbols : symbols QS ≡ Q.symbols
Q_symbols = refl

pub Q_labels : labels QS ≡ Q.labels
Q_labels = refl

pub Q_positions : positions QS ≡ Q.positions
Q_positions = refl

pub Q_end : end_of QS ≡ Q.statement_count
Q_end = refl

pub Q_frames : map (λ n. frame_of QS (label n)) (range_with_len 0 29) ≡ map (λ n. Q.frame (label n)) (range_with_len 0 29)
Q_frames = refl

pub Q_active : active_at QS 46 ≡ Q.active_at 46
Q_active = refl

pub Q_constants : map (λ n. is_constant_at QS (sym n) 46) (range_with_len 0 20) ≡ map (λ n. Q.is_constant_at (sym n) 46) (range_with_len 0 20)
Q_constants = refl

pub Q_float_codes : float_codes QS 46 ≡ Q.float_codes 46
Q_float_codes = refl

pub Q_places_after : map (λ n. place_after QS (label n)) (range_with_len 0 29) ≡ map (λ n. Q.place_after (label n)) (range_with_len 0 29)
Q_places_after = refl

pub Q_rows : kept_rows (codes "|-") QS ≡ Q.rows
Q_rows = refl
