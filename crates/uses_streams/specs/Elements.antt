-- How an element of a stream's queue, a value or the end, is coded as words, and that it
-- comes back from them.
use Rattle.std.specs.Prelude.{◌≡◌, ◌+◌, ℕ, suc, List, ◌∷◌, length, replicate, refl}
use Rattle.std.proofs.Common.{ap, arith}
use Rattle.std.proofs.lemmas.List.{length-replicate}
use Rattle.uses_streams.specs.declared.element.Element.{Element}
use Rattle.uses_streams.specs.declared.element.Element.TheVariants as elements

module _ {T : Type 0} where
  -- the words of an element: 1 and the value's words, or 0 and as many zeros (`size`) for the end
  abbrev pub words_of_element : ℕ → (T → List ℕ) → Element T → List ℕ
  words_of_element size words_of (elements.Value x) = 1 ∷ words_of x
  words_of_element size words_of elements.End = 0 ∷ replicate size 0

  -- the element that these words make: a value where the first is not 0, else the end
  abbrev pub element_of : (List ℕ → T) → List ℕ → Element T
  element_of value_of (suc n ∷ words) = elements.Value (value_of words)
  element_of value_of words = elements.End

module _ {T : Type 0} (size : ℕ) (words_of : T → List ℕ) where
  -- an element has one word more than a value
  pub long : ((x : T) → length (words_of x) ≡ size) → (e : Element T) → length (words_of_element size words_of e) ≡ 1 + size
  long sized (elements.Value x) = (let s = sized x in omega arith)
  long sized elements.End = (let s : length (replicate {A = ℕ} size 0) ≡ size = length-replicate {A = ℕ} size 0 in omega arith)

  -- if each value comes back from its words, each element of a stream comes back from its own
  pub given_back_element : (value_of : List ℕ → T) → ((x : T) → value_of (words_of x) ≡ x) → (e : Element T)
      → element_of value_of (words_of_element size words_of e) ≡ e
  given_back_element value_of back (elements.Value x) = ap elements.Value (back x)
  given_back_element value_of back elements.End = refl
