mod Banks
mod Digits
mod Sixteen
mod TrialBytes
mod Lines
mod ReadBack
mod Pages
