-- What a run leaves is the definition's text: the pen stands behind it and has the definition's state, and where the text fits into the room it stands
-- there. Assumes nothing.
use mathlib.Core.Path.{◌≡◌, refl, sym, ap, ◌∙◌, subst}
use mathlib.Core.Bool.{Bool, true, false, cond}
use mathlib.Core.List.{List, [], ◌∷◌, ◌++◌}
use Prim.Native.Nat.{ℕ, suc, ◌+◌, ◌≤◌, min}
use native.Mathlib.Omega.{arith}
use lib.ListN.{length, length-append}
use lib.Seq.{sets}
use Rattle.words.specs.Bytes.{bytes}
use Rattle.room.proofs.Laid.{laid_fits, length_laid}
use Rattle.room.proofs.Fit.{sets_append}
use Rattle.settings.specs.declared.Settings.{Settings}
use Rattle.settings.specs.declared.FormattingState.{FormattingState}
use Rattle.settings.specs.declared.Whitespace.{Whitespace}
use Rattle.settings.specs.declared.Whitespace.TheVariants as White
use Rattle.text.specs.Token.{spell}
use Rattle.text.specs.Asked.{flag, gap}
use Rattle.text.specs.Command.{Command}
use Rattle.text.specs.Command.Command.{token, space, space_if, space_at_body_if, newline_if, whitespace, write_indent, write_line, flush_line, flush_space, consume_newline, indent, dedent, enter_function_definition_statement, consume_function_definition_statement}
use Rattle.text.specs.Pen.{pend, at_level, indent_of, line_of, whitespace_text, whitespace_state, written, after, text, after_all}
use Rattle.pen.specs.declared.Pen.{Pen}
use Rattle.pen.specs.Sheet.{Sheet, last_place, last_level, leave, lay}
use Rattle.pen.specs.Run.{state_of, turned, space_where, line, whiten, step, run}
use Rattle.pen.specs.Promise.{sheet, Ran}
use Rattle.pen.specs.Free.{climb, climbs, Free}

-- no command changes the room's length

lay_length : (bs : List ℕ) (x : Sheet) → length (lay bs x).room ≡ length x.room
unfolding lay
lay_length [] x = refl
lay_length (b ∷ bs) x = length_laid x.room x.pen.at (b ∷ bs)

line_length : (s : Settings) (x : Sheet) → length (line s x).room ≡ length x.room
unfolding line
line_length s x = lay_length (indent_of s (state_of x)) (lay (bytes "\n") x) ∙ lay_length (bytes "\n") x

whiten_length : (w : Whitespace) (x : Sheet) → length (whiten w x).room ≡ length x.room
unfolding whiten
whiten_length White.None x = refl
whiten_length White.Space x = lay_length (bytes " ") x
whiten_length White.Newline x = refl

cond_length : (b : Bool) (x y z : Sheet) → length x.room ≡ length z.room → length y.room ≡ length z.room → length (cond b x y).room ≡ length z.room
cond_length true x y z e f = e
cond_length false x y z e f = f

step_length : (s : Settings) (c : Command) (x : Sheet) → length (step s c x).room ≡ length x.room
unfolding step space_where
step_length s (token t) x = lay_length (spell t) x
step_length s space x = lay_length (bytes " ") x
step_length s (space_if f) x = lay_length _ x
step_length s (space_at_body_if f) x = lay_length _ x
step_length s (newline_if f) x = refl
step_length s (whitespace g) x = whiten_length (gap s g) x
step_length s write_indent x = lay_length (indent_of s (state_of x)) x
step_length s write_line x = line_length s x
step_length s flush_line x = cond_length (state_of x).new_line_pending _ x x (line_length s x) refl
step_length s flush_space x = cond_length (state_of x).new_line_pending _ x x (lay_length (bytes " ") x) refl
step_length s consume_newline x = refl
step_length s indent x = refl
step_length s dedent x = refl
step_length s enter_function_definition_statement x = refl
step_length s consume_function_definition_statement x = refl

run_length : (s : Settings) (cs : List Command) (x : Sheet) → length (run s cs x).room ≡ length x.room
unfolding run
run_length s [] x = refl
run_length s (c ∷ cs) x = run_length s cs (step s c x) ∙ step_length s c x

pub ran_length : {s : Settings} {cs : List Command} {room room' : List ℕ} {p p' : Pen} → Ran s cs room p room' p' → length room' ≡ length room
ran_length {s = s} {cs = cs} {room = room} {p = p} a = ap (λ (x : Sheet). length x.room) (sym a.ran) ∙ run_length s cs (sheet room p)

-- the pen, n bytes on, in another state
abbrev pub behind : ℕ → FormattingState → Pen → Pen
behind n st p = record { at = p.at + n; next = p.next; state = st }

stay : (st : FormattingState) (p : Pen) → leave st p ≡ behind 0 st p
stay st p = let e : p.at ≡ p.at + 0 = omega arith in ap (λ (a : ℕ). record { at = a; next = p.next; state = st }) e

lay_pen : (bs : List ℕ) (x : Sheet) → x.pen.at + length bs ≤ last_place → (lay bs x).pen ≡ behind (length bs) (state_of x) x.pen
unfolding lay
lay_pen [] x h = stay (state_of x) x.pen
lay_pen (b ∷ bs) x h =
    let e : min (x.pen.at + suc (length bs)) last_place ≡ x.pen.at + suc (length bs) = omega arith in
    ap (λ (a : ℕ). record { at = a; next = x.pen.next; state = state_of x }) e

-- the pen behind a command: as far on as its bytes are long, in the definition's state

line_pen : (s : Settings) (x : Sheet) → x.pen.at + length (line_of s (state_of x)) ≤ last_place → (line s x).pen ≡ behind (length (line_of s (state_of x))) (state_of x) x.pen
unfolding line line_of
line_pen s x h =
    let i = indent_of s (state_of x) in
    let y = lay (bytes "\n") x in
    let e : y.pen ≡ behind 1 (state_of x) x.pen = lay_pen (bytes "\n") x (omega arith) in
    let k : y.pen.at + length i ≤ last_place = subst (λ (q : Pen). q.at + length i ≤ last_place) (sym e) (omega arith) in
    let j : x.pen.at + 1 + length i ≡ x.pen.at + suc (length i) = omega arith in
    lay_pen i y k ∙ ap (λ (q : Pen). behind (length i) q.state q) e ∙ ap (λ (a : ℕ). record { at = a; next = x.pen.next; state = state_of x }) j

whiten_pen : (w : Whitespace) (x : Sheet) → x.pen.at + length (whitespace_text w) ≤ last_place
    → (whiten w x).pen ≡ behind (length (whitespace_text w)) (whitespace_state w (state_of x)) x.pen
unfolding whiten
whiten_pen White.None x h = stay (state_of x) x.pen
whiten_pen White.Space x h = lay_pen (bytes " ") x h
whiten_pen White.Newline x h = stay (pend true (state_of x)) x.pen

-- a pending newline, written in one way or another, or none
module _ (st : FormattingState) where
  pend_none : st.new_line_pending ≡ false → st ≡ pend false st
  pend_none e = ap (λ (b : Bool). pend b st) e

flush_pen : (x y : Sheet) (bs : List ℕ) (b : Bool) → (state_of x).new_line_pending ≡ b → (b ≡ true → y.pen ≡ behind (length bs) (state_of x) x.pen)
    → (cond b (turned (pend false (state_of x)) y) x).pen ≡ behind (length (cond b bs [])) (pend false (state_of x)) x.pen
flush_pen x y bs true e f = ap (leave (pend false (state_of x))) (f refl)
flush_pen x y bs false e f = ap (λ (st : FormattingState). leave st x.pen) (pend_none (state_of x) e) ∙ stay (pend false (state_of x)) x.pen

step_pen : (s : Settings) (c : Command) (x : Sheet) → x.pen.at + length (written s c (state_of x)) ≤ last_place → (state_of x).indentation_level + climb c ≤ last_level
    → (step s c x).pen ≡ behind (length (written s c (state_of x))) (after s c (state_of x)) x.pen
unfolding step space_where written after
step_pen s (token t) x h k = lay_pen (spell t) x h
step_pen s space x h k = lay_pen (bytes " ") x h
step_pen s (space_if f) x h k = lay_pen _ x h
step_pen s (space_at_body_if f) x h k = lay_pen _ x h
step_pen s (newline_if f) x h k = stay _ x.pen
step_pen s (whitespace g) x h k = whiten_pen (gap s g) x h
step_pen s write_indent x h k = lay_pen (indent_of s (state_of x)) x h
step_pen s write_line x h k = line_pen s x h
step_pen s flush_line x h k =
    flush_pen x (line s x) (line_of s (state_of x)) (state_of x).new_line_pending refl
    (λ e. line_pen s x (subst (λ (b : Bool). x.pen.at + length (cond b (line_of s (state_of x)) []) ≤ last_place) e h))
step_pen s flush_space x h k =
    flush_pen x (lay (bytes " ") x) (bytes " ") (state_of x).new_line_pending refl
    (λ e. lay_pen (bytes " ") x (subst (λ (b : Bool). x.pen.at + length (cond b (bytes " ") []) ≤ last_place) e h))
step_pen s consume_newline x h k = stay _ x.pen
step_pen s indent x h k =
    let e : min ((state_of x).indentation_level + 1) last_level ≡ (state_of x).indentation_level + 1 = omega arith in ap (λ (n : ℕ). leave (at_level n (state_of x)) x.pen) e
    ∙ stay (at_level ((state_of x).indentation_level + 1) (state_of x)) x.pen
step_pen s dedent x h k = stay _ x.pen
step_pen s enter_function_definition_statement x h k = stay _ x.pen
step_pen s consume_function_definition_statement x h k = stay _ x.pen

-- the room behind a command, where its bytes fit: they stand there

lay_room : (bs : List ℕ) (x : Sheet) → x.pen.at + length bs ≤ length x.room → (lay bs x).room ≡ sets x.room x.pen.at bs
unfolding lay
lay_room [] x h = refl
lay_room (b ∷ bs) x h = laid_fits x.room x.pen.at (b ∷ bs) h

line_room : (s : Settings) (x : Sheet) → x.pen.at + length (line_of s (state_of x)) ≤ last_place → x.pen.at + length (line_of s (state_of x)) ≤ length x.room
    → (line s x).room ≡ sets x.room x.pen.at (line_of s (state_of x))
unfolding line line_of
line_room s x h k =
    let i = indent_of s (state_of x) in
    let y = lay (bytes "\n") x in
    let a = x.pen.at in
    let e : y.pen ≡ behind 1 (state_of x) x.pen = lay_pen (bytes "\n") x (omega arith) in
    let r : y.room ≡ sets x.room a (bytes "\n") = lay_room (bytes "\n") x (omega arith) in
    let f : y.pen.at + length i ≤ length y.room =
    subst (λ (q : Pen). q.at + length i ≤ length y.room) (sym e) (subst (λ (n : ℕ). a + 1 + length i ≤ n) (sym (lay_length (bytes "\n") x)) (omega arith)) in
    lay_room i y f ∙ ap (λ (q : Pen). sets y.room q.at i) e ∙ ap (λ (l : List ℕ). sets l (a + 1) i) r ∙ sym (sets_append x.room a (bytes "\n") i)

whiten_room : (w : Whitespace) (x : Sheet) → x.pen.at + length (whitespace_text w) ≤ length x.room → (whiten w x).room ≡ sets x.room x.pen.at (whitespace_text w)
unfolding whiten
whiten_room White.None x h = refl
whiten_room White.Space x h = lay_room (bytes " ") x h
whiten_room White.Newline x h = refl

flush_room : (x y : Sheet) (bs : List ℕ) (b : Bool) → (b ≡ true → y.room ≡ sets x.room x.pen.at bs)
    → (cond b (turned (pend false (state_of x)) y) x).room ≡ sets x.room x.pen.at (cond b bs [])
flush_room x y bs true f = f refl
flush_room x y bs false f = refl

step_room : (s : Settings) (c : Command) (x : Sheet) → x.pen.at + length (written s c (state_of x)) ≤ last_place
    → x.pen.at + length (written s c (state_of x)) ≤ length x.room → (step s c x).room ≡ sets x.room x.pen.at (written s c (state_of x))
unfolding step space_where written
step_room s (token t) x h k = lay_room (spell t) x k
step_room s space x h k = lay_room (bytes " ") x k
step_room s (space_if f) x h k = lay_room _ x k
step_room s (space_at_body_if f) x h k = lay_room _ x k
step_room s (newline_if f) x h k = refl
step_room s (whitespace g) x h k = whiten_room (gap s g) x k
step_room s write_indent x h k = lay_room (indent_of s (state_of x)) x k
step_room s write_line x h k = line_room s x h k
step_room s flush_line x h k =
    flush_room x (line s x) (line_of s (state_of x)) (state_of x).new_line_pending
    (λ e. line_room s x (subst (λ (b : Bool). x.pen.at + length (cond b (line_of s (state_of x)) []) ≤ last_place) e h) (subst (λ (b : Bool). x.pen.at + length (cond b (line_of s (state_of x)) []) ≤ length x.room) e k))
step_room s flush_space x h k =
    flush_room x (lay (bytes " ") x) (bytes " ") (state_of x).new_line_pending
    (λ e. lay_room (bytes " ") x (subst (λ (b : Bool). x.pen.at + length (cond b (bytes " ") []) ≤ length x.room) e k))
step_room s consume_newline x h k = refl
step_room s indent x h k = refl
step_room s dedent x h k = refl
step_room s enter_function_definition_statement x h k = refl
step_room s consume_function_definition_statement x h k = refl

-- a command enters no more levels than it climbs
cond_level : (b : Bool) (st : FormattingState) → (cond b (pend true st) st).indentation_level ≡ st.indentation_level
cond_level true st = refl
cond_level false st = refl

whitespace_level : (w : Whitespace) (st : FormattingState) → (whitespace_state w st).indentation_level ≡ st.indentation_level
whitespace_level White.None st = refl
whitespace_level White.Space st = refl
whitespace_level White.Newline st = refl

pub after_level : (s : Settings) (c : Command) (st : FormattingState) → (after s c st).indentation_level ≤ st.indentation_level + climb c
unfolding after
after_level s (token t) st = omega arith
after_level s space st = omega arith
after_level s (space_if f) st = omega arith
after_level s (space_at_body_if f) st = omega arith
after_level s (newline_if f) st = omega (arith, cond_level (flag s f) st)
after_level s (whitespace g) st = omega (arith, whitespace_level (gap s g) st)
after_level s write_indent st = omega arith
after_level s write_line st = omega arith
after_level s flush_line st = omega arith
after_level s flush_space st = omega arith
after_level s consume_newline st = omega arith
after_level s indent st = omega arith
after_level s dedent st = omega arith
after_level s enter_function_definition_statement st = omega arith
after_level s consume_function_definition_statement st = omega arith

-- where no number stops on the way, none stops at its first command nor behind it
module _ (s : Settings) (c : Command) (cs : List Command) (x : Sheet) (free : Free s (c ∷ cs) x.pen) where
  both_places : x.pen.at + (length (written s c (state_of x)) + length (text s cs (after s c (state_of x)))) ≤ last_place
  unfolding text
  both_places = subst (λ (n : ℕ). x.pen.at + n ≤ last_place) (length-append (written s c (state_of x)) (text s cs (after s c (state_of x)))) free.place

  both_levels : (state_of x).indentation_level + (climb c + climbs cs) ≤ last_level
  unfolding climbs
  both_levels = free.levels

  pub pen_behind : (step s c x).pen ≡ behind (length (written s c (state_of x))) (after s c (state_of x)) x.pen
  pen_behind = step_pen s c x (omega (arith, both_places)) (omega (arith, both_levels))

  pub still_free : Free s cs (step s c x).pen
  still_free = subst (Free s cs) (sym pen_behind) (record {
    place = omega (arith, both_places);
    levels = omega (arith, both_levels, after_level s c (state_of x));
  })

-- the pen behind a list of commands
pub run_pen : (s : Settings) (cs : List Command) (x : Sheet) → Free s cs x.pen
    → (run s cs x).pen ≡ behind (length (text s cs (state_of x))) (after_all s cs (state_of x)) x.pen
unfolding run text after_all
run_pen s [] x free = stay (state_of x) x.pen
run_pen s (c ∷ cs) x free =
    let w = written s c (state_of x) in
    let t = text s cs (after s c (state_of x)) in
    let e : x.pen.at + length w + length t ≡ x.pen.at + length (w ++ t) = omega (arith, length-append w t) in
    run_pen s cs (step s c x) (still_free s c cs x free)
    ∙ ap (λ (q : Pen). behind (length (text s cs q.state)) (after_all s cs q.state) q) (pen_behind s c cs x free)
    ∙ ap (λ (a : ℕ). record { at = a; next = x.pen.next; state = after_all s cs (after s c (state_of x)) }) e

-- the room behind it, where the text fits
pub run_room : (s : Settings) (cs : List Command) (x : Sheet) → Free s cs x.pen → x.pen.at + length (text s cs (state_of x)) ≤ length x.room
    → (run s cs x).room ≡ sets x.room x.pen.at (text s cs (state_of x))
unfolding run text
run_room s [] x free h = refl
run_room s (c ∷ cs) x free h =
    let w = written s c (state_of x) in
    let t = text s cs (after s c (state_of x)) in
    let a = x.pen.at in
    let e = pen_behind s c cs x free in
    let k : a + (length w + length t) ≤ length x.room = subst (λ (n : ℕ). a + n ≤ length x.room) (length-append w t) h in
    let r : (step s c x).room ≡ sets x.room a w = step_room s c x (omega (arith, both_places s c cs x free)) (omega arith) in
    let f : (step s c x).pen.at + length (text s cs (state_of (step s c x))) ≤ length (step s c x).room =
    subst (λ (q : Pen). q.at + length (text s cs q.state) ≤ length (step s c x).room) (sym e)
    (subst (λ (n : ℕ). a + length w + length t ≤ n) (sym (step_length s c x)) (omega arith)) in
    run_room s cs (step s c x) (still_free s c cs x free) f
    ∙ ap (λ (q : Pen). sets (step s c x).room q.at (text s cs q.state)) e
    ∙ ap (λ (l : List ℕ). sets l (a + length w) t) r ∙ sym (sets_append x.room a w t)

-- The same of a promise: where no number stops, a writer that ran cs left the pen behind the definition's text, in the definition's state; and where the
-- text fits, it stands in the room.
module _ {s : Settings} {cs : List Command} {room room' : List ℕ} {p p' : Pen} (ran : Ran s cs room p room' p') (free : Free s cs p) where
  pub pen_text : p' ≡ behind (length (text s cs p.state)) (after_all s cs p.state) p
  pen_text = ap (λ (x : Sheet). x.pen) (sym ran.ran) ∙ run_pen s cs (sheet room p) free

  pub room_text : p.at + length (text s cs p.state) ≤ length room → room' ≡ sets room p.at (text s cs p.state)
  room_text h = ap (λ (x : Sheet). x.room) (sym ran.ran) ∙ run_room s cs (sheet room p) free h
