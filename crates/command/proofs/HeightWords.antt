-- What words behind `layers` ask for, word after word.
use Rattle.std.proofs.Common.{◌≡◌, ◌<◌, ℕ, List, [], ◌∷◌, length, map, Option, Some, Result, refl, ap, sym, subst, arith}
use Rattle.std.specs.Prelude.{option_and_then, option_map}
use Rattle.requests.specs.declared.request.Form.{Form}
use Rattle.requests.specs.declared.request.Format.{Format}
use Rattle.requests.specs.declared.refusal.Refusal.{Refusal}
use Rattle.requests.specs.Questions.{Asked}
use Rattle.requests.specs.Words.{at_end, form_first, format_first, frame_first, FrameWords, Indices, indices_first}
use Rattle.command.specs.Layers.{layers_asked, layers_words}

-- no words, as bytes
pub no_words : {A B : Type 0} (f : A → B) (words : List A) → length words < 1 → map f words ≡ []
no_words f [] none = refl
no_words f (word ∷ words) none = absurd (omega (arith, none))

module _ (words : List (List ℕ)) (indices : Indices × List (List ℕ)) (frame : Option FrameWords × List (List ℕ))
    (form : Form × List (List ℕ)) (format : Format) (others : List (List ℕ)) (asked : Result Asked Refusal) where
  abbrev behind_frame : Indices × List (List ℕ) → Option FrameWords × List (List ℕ) → Option (Result Asked Refusal)
  behind_frame i f = let form = form_first f.1 in option_map (layers_asked i.0 f.0 form.0) (at_end (format_first form.1))

  pub heights_asked : Some indices ≡ indices_first words → Some frame ≡ frame_first indices.1 → form ≡ form_first frame.1
      → (format, others) ≡ format_first form.1 → others ≡ [] → asked ≡ layers_asked indices.0 frame.0 form.0 format → Some asked ≡ layers_words words
  heights_asked h_indices h_frame h_form h_format none is =
      subst (λ o. Some asked ≡ option_and_then (λ i. option_and_then (λ f. behind_frame i f) (frame_first i.1)) o) h_indices
      (subst (λ o. Some asked ≡ option_and_then (λ f. behind_frame indices f) o) h_frame
      (subst (λ (p : Form × List (List ℕ)). Some asked ≡ option_map (layers_asked indices.0 frame.0 p.0) (at_end (format_first p.1))) h_form
      (subst (λ (q : Format × List (List ℕ)). Some asked ≡ option_map (layers_asked indices.0 frame.0 form.0) (at_end q)) h_format
      (subst (λ (rest : List (List ℕ)). Some asked ≡ option_map (layers_asked indices.0 frame.0 form.0) (at_end (format, rest))) (sym none) (ap Some is)))))
