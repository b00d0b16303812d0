mod Fields
mod Numbers
