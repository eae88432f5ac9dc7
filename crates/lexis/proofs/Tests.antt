-- What two tests together say, what a table of words says of a text in it, and what `all` says of a text's parts. Assumes nothing.
use mathlib.Core.Path.{◌≡◌, refl, sym, subst}
use mathlib.Core.Bool.{Bool, true, false, ◌&&◌, ◌||◌, true≢false}
use mathlib.Core.List.{List, [], ◌∷◌, ◌++◌}
use Prim.Native.Nat.{ℕ}
use Prim.Native.String.{String}
use lib.Dec.{T}
use Rattle.words.specs.Bytes.{bytes}
use Rattle.words.specs.Form.{all, same, one_of}
use Rattle.words.proofs.Search.{same_eq, every_word}

-- the two ways to say that a test is passed
pub holds : (b : Bool) → T b → b ≡ true
holds true t = refl
holds false t = absurd t

pub both : (a b : Bool) → a && b ≡ true → (a ≡ true) × (b ≡ true)
both true b e = (refl, e)
both false b e = absurd (true≢false (sym e))

pub either : {C : Type 0} (a b : Bool) → a || b ≡ true → (a ≡ true → C) → (b ≡ true → C) → C
either true b e f g = f refl
either false b e f g = g e

pub or_left : (a b : Bool) → a ≡ true → a || b ≡ true
or_left true b e = refl
or_left false b e = absurd (true≢false (sym e))

pub or_right : (a b : Bool) → b ≡ true → a || b ≡ true
or_right true b e = refl
or_right false b e = e

pub and_both : (a b : Bool) → a ≡ true → b ≡ true → a && b ≡ true
and_both true b e f = f
and_both false b e f = absurd (true≢false (sym e))

-- passed and failed at once
pub clash : {C : Type 0} {b : Bool} → b ≡ true → b ≡ false → C
clash e f = absurd (true≢false (cc))

-- a test that all words of a table pass
pub passes : (f : List ℕ → Bool) (ws : List String) (s : List ℕ) → every_word f ws ≡ true → one_of ws s ≡ true → f s ≡ true
unfolding every_word one_of
passes f [] s p e = absurd (true≢false (sym e))
passes f (w ∷ ws) s p e =
    either (same (bytes w) s) (one_of ws s) e (λ q. subst (λ (u : List ℕ). f u ≡ true) (same_eq (bytes w) s q) (both (f (bytes w)) (every_word f ws) p).0)
    (λ q. passes f ws s (both (f (bytes w)) (every_word f ws) p).1 q)

-- `all` of a text and of its parts
pub all_append : (f : ℕ → Bool) (u v : List ℕ) → all f u ≡ true → all f v ≡ true → all f (u ++ v) ≡ true
unfolding all
all_append f [] v h i = i
all_append f (b ∷ u) v h i = let a = both (f b) (all f u) h in and_both (f b) (all f (u ++ v)) a.0 (all_append f u v a.1 i)

pub all_behind : (f : ℕ → Bool) (u v : List ℕ) → all f (u ++ v) ≡ true → all f v ≡ true
unfolding all
all_behind f [] v h = h
all_behind f (b ∷ u) v h = all_behind f u v (both (f b) (all f (u ++ v)) h).1

pub all_wider : (f g : ℕ → Bool) → ((b : ℕ) → f b ≡ true → g b ≡ true) → (w : List ℕ) → all f w ≡ true → all g w ≡ true
unfolding all
all_wider f g wider [] h = refl
all_wider f g wider (b ∷ w) h = let a = both (f b) (all f w) h in and_both (g b) (all g w) (wider b a.0) (all_wider f g wider w a.1)
