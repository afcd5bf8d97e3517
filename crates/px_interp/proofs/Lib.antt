mod HeldSlots
mod ObjectSteps
mod MadeObjects
mod LineTexts
mod PrintSteps
